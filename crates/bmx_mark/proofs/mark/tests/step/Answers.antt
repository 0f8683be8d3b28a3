use Rattle.std.proofs.Common.{◌≡◌, ℕ, ◌+◌, ◌<◌, ◌≤◌, Bool, true, false, cond, ◌||◌, ◌==◌, List, [], ◌∷◌, length, Option, Some, None, refl, sym, ap, arith, inl, inr, ◌⊎◌}
use Rattle.std.proofs.lemmas.Bool.{eq-eqb}
use Rattle.std.proofs.lemmas.List.{length-map}
use Rattle.bmx_mark.specs.Marks.{Marking, has_name, names_in, next_grey, IsTarget, AreNewTargets}
use Rattle.bmx_mark.proofs.Reaching.{right}
use Rattle.bmx_mark.proofs.mark.tests.step.Goals as goal

-- one of two
one_of : (b c : Bool) (l f y : ℕ) → cond b (Some l) (cond c (Some f) None) ≡ Some y → (y ≡ l) ⊎ (y ≡ f)
one_of true c l f y e = let s : l ≡ y = cc in inl (sym s)
one_of false true l f y e = let s : f ≡ y = cc in inr (sym s)
one_of false false l f y e = absurd (cc)

here : (y : ℕ) (ys : List ℕ) → has_name (y ∷ ys) y ≡ true
here y ys = ap (λ b. b || has_name ys y) (eq-eqb y y refl)

three : (x y z l f : ℕ) → x < y → y < z → (x ≡ l) ⊎ (x ≡ f) → (y ≡ l) ⊎ (y ≡ f) → (z ≡ l) ⊎ (z ≡ f) → ⊥
three x y z l f a b (inl p) (inl q) r = omega arith
three x y z l f a b (inr p) (inr q) r = omega arith
three x y z l f a b (inl p) (inr q) (inl r) = omega arith
three x y z l f a b (inl p) (inr q) (inr r) = omega arith
three x y z l f a b (inr p) (inl q) (inl r) = omega arith
three x y z l f a b (inr p) (inl q) (inr r) = omega arith

-- so rising targets are at most two
two : (target : ℕ → ℕ → Option ℕ) (m : Marking) (x l f : ℕ) → ((y : ℕ) → IsTarget target x y → (y ≡ l) ⊎ (y ≡ f)) → (names : List ℕ) → AreNewTargets target m x names → length names ≤ 2
two target m x l f either [] n = omega arith
two target m x l f either (a ∷ []) n = omega arith
two target m x l f either (a ∷ b ∷ []) n = omega arith
two target m x l f either (a ∷ b ∷ c ∷ rest) n =
    let is = λ (y : ℕ) (h : has_name (a ∷ b ∷ c ∷ rest) y ≡ true). either y (n.each y h).0 in
    let some : 0 + 1 < length (a ∷ b ∷ c ∷ rest) = omega arith in
    let more : 1 + 1 < length (a ∷ b ∷ c ∷ rest) = omega arith in
    let low : a < b = n.rising 0 some in
    let high : b < c = n.rising 1 more in
    absurd (three a b c l f low high
    (is a (here a (b ∷ c ∷ rest)))
    (is b (right (a == b) _ (here b (c ∷ rest))))
    (is c (right (a == c) _ (right (b == c) _ (here c rest)))))

pub step-requires-clause-room : goal.step-requires-clause-room
step-requires-clause-room c =
    let f = c.args.edges.now in
    let m = c.args.mark.now in
    λ names n.
    let few : length names ≤ 2 = two _ m (next_grey m) f.later f.first (λ y t. one_of _ _ f.later f.first y t.1) names n in
    omega (arith, few)

pub returns : goal.returns
returns c =
    let f = c.args.edges.now in
    let m = c.args.mark.now in
    let s = c.step.ensures.scans in
    let few : length (names_in s.added) ≤ 2 = two _ m (next_grey m) f.later f.first (λ y t. one_of _ _ f.later f.first y t.1) (names_in s.added) s.targets in
    omega (arith, few, s.spare, length-map s.added (λ (e : ℕ × ℕ). e.0))
