use Rattle.std.proofs.Common.{◌≡◌, ℕ, Some, sym, ap, subst, ◌∙◌}
use Rattle.std.specs.Option.{option_map}
use Rattle.bmx_types.specs.declared.addresses.Info.{Info}
use Rattle.bmx_replica.specs.Layouts.{moves_in}
use Rattle.bmx_replica.specs.Replicas.{Holding, StandsAt, entry_of, info_in}
use Rattle.bmx_replica.specs.declared.objects.Object.{Object}
use Rattle.bmx_replica.specs.contracts.replica.Replica.{the_view}
use Rattle.bmx_replica.proofs.Fielded.{entry_of-found}
use Rattle.bmx_replica.proofs.Finding.{found_of}
use Rattle.bmx_replica.proofs.replica.Replica.info_at.Goals as goal

pub returns : goal.returns
returns c =
    let r : Holding = the_view c.self.inside in
    let o : Object = c.args.object.now in
    let at : StandsAt r o = subst (λ (x : Holding). StandsAt x o) (sym c.self.view_is) c.requires in
    let f = found_of r o c.self.invariant.1 at in
    let moves : c.in-Live.moves ≡ moves_in o.header.state = sym (ap moves_in c.in-Live.is) in
    let place : (a m : ℕ) → Info = λ a m. record { name = o.header.name; bunch = o.header.bunch; size = o.header.size; place = record { address = a; moves = m } } in
    let I : Holding → Type 0 = λ x. option_map (info_in o.header.name) (entry_of x o.header.name) ≡ Some (place o.address c.in-Live.moves) in
    subst I c.self.view_is
    (ap (option_map (info_in o.header.name)) (entry_of-found r o.header.name f.0 o.header f.2)
    ∙ ap (λ (a : ℕ). Some (place a (moves_in o.header.state))) f.1
    ∙ ap (λ (m : ℕ). Some (place o.address m)) (sym moves))
