use Rattle.std.proofs.Common.{◌≡◌, IsSome, refl, sym, ap, subst, ◌∙◌}
use Rattle.bmx_replica.specs.Layouts.{kinds_in}
use Rattle.bmx_replica.specs.Replicas.{Holding, StandsAt, copy_of}
use Rattle.bmx_replica.specs.declared.objects.Object.{Object}
use Rattle.bmx_replica.specs.contracts.replica.Replica.{the_view}
use Rattle.bmx_replica.proofs.Finding.{copied_there}
use Rattle.bmx_replica.proofs.replica.Replica.is_copied.Goals as goal

pub returns-then-kinds-ne0 : goal.returns-then-kinds-ne0
returns-then-kinds-ne0 c =
    let r : Holding = the_view c.self.inside in
    let o : Object = c.args.object.now in
    let at : StandsAt r o = subst (λ (x : Holding). StandsAt x o) (sym c.self.view_is) c.requires in
    let kinds : c.in-Live.kinds ≡ kinds_in o.header.state = sym (ap kinds_in c.in-Live.is) in
    let copy : IsSome (copy_of r o.header.name) = copied_there r o c.self.invariant.1 at (λ none. c.if-kinds-ne0.true (kinds ∙ none)) in
    (λ t. subst (λ (x : Holding). IsSome (copy_of x o.header.name)) c.self.view_is copy, λ s. refl)
