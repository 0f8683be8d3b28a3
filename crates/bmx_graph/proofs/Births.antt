-- The objects of an opening, one birth after another.
use Rattle.std.proofs.Common.{◌≡◌, ℕ, ◌+◌, ◌<◌, true, false, cond, eqb, List, [], ◌∷◌, take, Option, Some, None, slice_get, refl, sym, ap, ◌∙◌, max, ⊎_elim, arith, zero, suc, add-one}
use Rattle.std.specs.Option.{option_map}
use Rattle.std.proofs.lemmas.Bool.{cases_Bool, eqb-true, ne_eqb, cond-true, cond-false}
use Rattle.bmx_types.specs.declared.openings.Birth.{Birth}
use Rattle.bmx_types.specs.Openings.{AreBirths, bunches_of}
use Rattle.std.proofs.Math.Nat.{max_comm, sub-add-eq-max}
use Rattle.bmx_types.specs.declared.values.Val.{Val}
use Rattle.bmx_graph.specs.State.{born_as}
use Rattle.bmx_graph.specs.Graphs.{same_name}
use Rattle.bmx_graph.proofs.States.{objects-put}

born_as-cons : (b : Birth) (bs : List Birth) (q : ℕ) → born_as (b ∷ bs) q ≡ cond (eqb b.name q) (Some b.fields) (born_as bs q)
born_as-cons b bs q =
    ⊎_elim
    (λ (e : eqb b.name q ≡ true). rw e refl)
    (λ (e : eqb b.name q ≡ false). rw e refl)
    (cases_Bool (eqb b.name q))

-- one more birth, whose name is new
born_as-push : (bs : List Birth) (i : ℕ) (b : Birth)
    → slice_get bs i ≡ Some b
    → ((j : ℕ) (a : Birth) → j < i → slice_get bs j ≡ Some a → a.name ≡ b.name → ⊥)
    → (q : ℕ) → born_as (take (suc i) bs) q ≡ cond (eqb b.name q) (Some b.fields) (born_as (take i bs) q)
born_as-push [] i b at new q = absurd (cc)
born_as-push (a ∷ bs) zero b at new q =
    let same : a ≡ b = cc in
    born_as-cons a [] q ∙ ap (λ (x : Birth). cond (eqb x.name q) (Some x.fields) None) same
born_as-push (a ∷ bs) (suc i) b at new q =
    let rest = born_as-push bs i b at (λ j x lt e. new (suc j) x (omega arith) e) q in
    ⊎_elim
    (λ (e : eqb a.name q ≡ true).
    let other : eqb b.name q ≡ false = ne_eqb b.name q (λ f. new zero a (omega arith) refl (eqb-true a.name q e ∙ sym f)) in
    let left : born_as (take (suc (suc i)) (a ∷ bs)) q ≡ Some a.fields = born_as-cons a (take (suc i) bs) q ∙ cond-true (eqb a.name q) _ _ e in
    let right : born_as (take (suc i) (a ∷ bs)) q ≡ Some a.fields = born_as-cons a (take i bs) q ∙ cond-true (eqb a.name q) _ _ e in
    left ∙ sym (cond-false (eqb b.name q) (Some b.fields) _ other ∙ right))
    (λ (e : eqb a.name q ≡ false).
    let left : born_as (take (suc (suc i)) (a ∷ bs)) q ≡ born_as (take (suc i) bs) q = born_as-cons a (take (suc i) bs) q ∙ cond-false (eqb a.name q) _ _ e in
    let right : born_as (take (suc i) (a ∷ bs)) q ≡ born_as (take i bs) q = born_as-cons a (take i bs) q ∙ cond-false (eqb a.name q) _ _ e in
    left ∙ rest ∙ ap (cond (eqb b.name q) (Some b.fields)) (sym right))
    (cases_Bool (eqb a.name q))

-- the next birth of an opening
pub born_as-next : (births : List Birth) (i : ℕ) (b : Birth) → AreBirths births → slice_get births i ≡ Some b → (q : ℕ)
    → born_as (take (i + 1) births) q ≡ cond (eqb b.name q) (Some b.fields) (born_as (take i births) q)
born_as-next births i b are at q =
    rw add-one (born_as-push births i b at (λ j a lt e same. let one = are.named j a e in let two = are.named i b at in absurd (omega arith)) q)

-- what an opening's objects are after one more birth
pub born-next : {V : Type 0} (items : V → List Val) (f g : ℕ → Option V) (births : List Birth) (i : ℕ) (b : Birth) (v : V)
    → AreBirths births → slice_get births i ≡ Some b → items v ≡ b.fields
    → ((q : ℕ) → option_map items (f q) ≡ born_as (take i births) q)
    → ((q : ℕ) → g q ≡ cond (same_name b.name q) (Some v) (f q))
    → (q : ℕ) → option_map items (g q) ≡ born_as (take (i + 1) births) q
born-next items f g births i b v are at same had put q =
    let new : option_map items (g q) ≡ cond (eqb b.name q) (Some (items v)) (option_map items (f q)) = objects-put items f g b.name v put q in
    new ∙ ap (λ l. cond (eqb b.name q) (Some l) (option_map items (f q))) same ∙ ap (cond (eqb b.name q) (Some b.fields)) (had q) ∙ sym (born_as-next births i b are at q)

max_assoc : (a b c : ℕ) → max (max a b) c ≡ max a (max b c)
max_assoc a b c = omega (arith, sub-add-eq-max a b, sub-add-eq-max (max a b) c, sub-add-eq-max b c, sub-add-eq-max a (max b c))

-- one birth more may be of a bunch more
pub bunches_of-next : (bs : List Birth) (i : ℕ) (b : Birth) → slice_get bs i ≡ Some b → bunches_of (take (i + 1) bs) ≡ max (bunches_of (take i bs)) (b.bunch + 1)
bunches_of-next [] i b at = absurd (cc)
bunches_of-next (a ∷ bs) zero b at =
    let same : a ≡ b = cc in
    ap (λ (x : Birth). max (x.bunch + 1) 0) same ∙ max_comm (b.bunch + 1) 0
bunches_of-next (a ∷ bs) (suc i) b at =
    let rest : bunches_of (take (i + 1) bs) ≡ max (bunches_of (take i bs)) (b.bunch + 1) = bunches_of-next bs i b at in
    let shift : suc i + 1 ≡ suc (i + 1) = omega arith in
    ap (λ k. bunches_of (take k (a ∷ bs))) shift ∙ ap (max (a.bunch + 1)) rest ∙ sym (max_assoc (a.bunch + 1) (bunches_of (take i bs)) (b.bunch + 1))
