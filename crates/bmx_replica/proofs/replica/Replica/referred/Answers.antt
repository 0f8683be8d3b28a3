use Rattle.std.proofs.Common.{◌≡◌, ℕ, Option, Some, None, IsSome, is_some, unwrap_or, refl, sym, ap, subst, ◌∙◌}
use Rattle.std.specs.Prelude.{IfNone}
use Rattle.std.proofs.lemmas.Bool.{false≢true}
use Rattle.bmx_types.specs.declared.values.Val.TheVariants as val
use Rattle.bmx_segment.specs.Stores.{header_at}
use Rattle.bmx_segment.specs.declared.headers.Header.{Header}
use Rattle.bmx_replica.specs.Chains.{Means, name_at}
use Rattle.bmx_replica.specs.Replicas.{Holding, entry_of}
use Rattle.bmx_replica.specs.declared.objects.Object.{Object}
use Rattle.bmx_replica.proofs.Chained.{Means-from, name_at-from}
use Rattle.bmx_replica.proofs.replica.Replica.referred.Goals as goal

found : (o : Option Header) → IsSome o → (h : Header) × (o ≡ Some h)
found None is = absurd (false≢true is)
found (Some h) is = (h, refl)

itself : (n : ℕ) → n ≡ n
itself n = refl

pub unreachable-requires : goal.unreachable-requires
unreachable-requires c =
    let r : Holding = c.args.self.now in
    let w : ℕ = c.args.w in
    let h = found (header_at r.heap.blocks w) (c.requires.field.there (itself 2)) in
    let named : name_at r.heap.blocks w ≡ Some h.0.name = name_at-from r.heap.blocks w h.0 h.1 in
    let N : Option Object → Type 0 = λ o. IfNone o ((name : ℕ) → Means r.heap.blocks w name → entry_of r name ≡ None) in
    let none : N None = subst N c.in_default.is c.object_at.ensures.none in
    let has : IsSome (entry_of r h.0.name) = subst (λ (o : Option ℕ). IsSome (entry_of r (unwrap_or o 0))) named c.requires.target in
    false≢true (sym (ap is_some (none h.0.name (Means-from r.slots r.heap.blocks c.object_at.ensures.replica w h.0.name (c.requires.field.address (itself 2)) named))) ∙ has)

pub returns-clause-named : goal.returns-clause-named
returns-clause-named c =
    ap (λ (o : Option ℕ). val.Ref (unwrap_or o 0)) c.in-Some.ensures.means
