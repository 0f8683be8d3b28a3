use Rattle.std.proofs.Common.{◌≡◌, ℕ, sym, ◌∙◌, subst}
use Rattle.std.proofs.lemmas.Bool.{eq-eqb, eqb-true}
use Rattle.std.proofs.lemmas.Option.{same_Some}
use Rattle.bmx_replica.specs.Chains.{Means}
use Rattle.bmx_replica.proofs.Slotted.{same_name-is}
use Rattle.bmx_replica.proofs.Chained.{name_at-means}
use Rattle.bmx_replica.proofs.replica.Replica.same.Goals as goal

pub returns-in-Some-Some : goal.returns-in-Some-Some
returns-in-Some-Some c =
    let r = c.args.self.now in
    let x : ℕ = c.in-Some-Some.x in
    let y : ℕ = c.in-Some-Some.y in
    let P : ℕ → Type 0 = λ n. Means r.heap.blocks c.args.b n in (
      λ t.
          let one : x ≡ y = eqb-true x y (sym (same_name-is x y) ∙ sym c.eq.ensures ∙ t) in
          (x, c.in-Some-Some.ensures.some, subst P (sym one) c.in-Some-Some.ensures'.some),
      λ p.
          let first : x ≡ p.0 = same_Some x p.0 (sym c.in-Some-Some.ensures.header ∙ name_at-means r.slots r.heap.blocks c.in-Some-Some.ensures.replica c.args.a p.0 p.1.ends) in
          let second : y ≡ p.0 = same_Some y p.0 (sym c.in-Some-Some.ensures'.header ∙ name_at-means r.slots r.heap.blocks c.in-Some-Some.ensures.replica c.args.b p.0 p.2.ends) in
          c.eq.ensures ∙ (same_name-is x y ∙ eq-eqb x y (first ∙ sym second)),
    )
