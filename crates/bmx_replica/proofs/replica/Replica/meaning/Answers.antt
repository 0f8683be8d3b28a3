use Rattle.std.proofs.Common.{◌≡◌, Some, None, sym, ap, ◌∙◌, refl}
use Rattle.std.proofs.lemmas.Option.{none-some}
use Rattle.bmx_replica.specs.Chains.{name_at}
use Rattle.bmx_replica.proofs.Chained.{Means-from, name_at-means}
use Rattle.bmx_replica.proofs.replica.Replica.meaning.Goals as goal

pub returns-in-Some-clause-some : goal.returns-in-Some-clause-some
returns-in-Some-clause-some c =
    let b = c.self.inside.segments.blocks in
    let at : c.in_ok-address.address ≡ c.args.w = c.in_ok-address.ensures.value in
    let there : name_at b c.args.w ≡ Some c.in-Some.name = ap (name_at b) (sym at) ∙ sym c.in-Some.ensures in
    rw (← c.self.view_is) (Means-from c.self.inside.directory.slots b c.self.invariant.1 c.args.w c.in-Some.name (c.in_ok-address.ensures.some.0 refl) there)

pub returns-in-None-clause-none : goal.returns-in-None-clause-none
returns-in-None-clause-none c =
    let b = c.self.inside.segments.blocks in
    let at : c.in_ok-address.address ≡ c.args.w = c.in_ok-address.ensures.value in
    let none : name_at b c.args.w ≡ None = ap (name_at b) (sym at) ∙ sym c.in-None.ensures in
    rw (← c.self.view_is) (λ name m. none-some name (sym none ∙ name_at-means c.self.inside.directory.slots b c.self.invariant.1 c.args.w name m.ends))
