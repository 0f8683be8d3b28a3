-- How often a node stands in a list of nodes.
use Rattle.std.proofs.Common.{◌≡◌, ◌≢◌, ℕ, ◌+◌, ◌≤◌, ◌<◌, arith, List, [], ◌∷◌, zero, suc, add-one, refl, ap, subst, ◌∙◌, Bool, true, false, cond}
use Rattle.std.specs.Prelude.{◌==◌, not, nat_lt, if◌then◌else◌, slice_index}
use Rattle.std.specs.List.Sorted.{IsStrictlyIncreasing}
use Rattle.bmx_token.specs.Nodes.{nodes_with, nodes_without}
use Rattle.bmx_token_model.proofs.Tallies.{Cases, Same, Apart, cases, same_true, eqb_true, apart_false}

abbrev pub times : ℕ → List ℕ → ℕ
times x [] = 0
times x (y ∷ ys) = (if x == y then 1 else 0) + times x ys

pub times-none : (xs : List ℕ) → ((x : ℕ) → times x xs ≡ 0) → xs ≡ []
times-none [] h = refl
times-none (y ∷ ys) h =
    let here : (if y == y then 1 else 0) + times y ys ≡ 0 = h y in
    let one : 1 + times y ys ≡ 0 = rw (same_true y) at here in
    absurd (omega arith)

-- one node more
pub times_with-more : (x node : ℕ) (ys : List ℕ) → times x ys ≤ times x (nodes_with node ys)
times_with-more x node [] = omega arith
times_with-more x node (y ∷ ys) = by_tests (node == y) (nat_lt node y) (times_with-more x node ys)
  where
    by_tests : (t u : Bool) → times x ys ≤ times x (nodes_with node ys) →
        times x (y ∷ ys) ≤ times x (cond t (y ∷ ys) (cond u (node ∷ y ∷ ys) (y ∷ nodes_with node ys)))
    by_tests true u h = omega arith
    by_tests false true h = omega arith
    by_tests false false h = omega arith

pub times_with-there : (node : ℕ) (ys : List ℕ) → 1 ≤ times node (nodes_with node ys)
times_with-there node [] = rw (same_true node) (omega arith)
times_with-there node (y ∷ ys) = by_tests (node == y) (nat_lt node y) refl (times_with-there node ys)
  where
    by_tests : (t u : Bool) → (node == y) ≡ t → 1 ≤ times node (nodes_with node ys) →
        1 ≤ times node (cond t (y ∷ ys) (cond u (node ∷ y ∷ ys) (y ∷ nodes_with node ys)))
    by_tests true u e h = rw e (omega arith)
    by_tests false true e h = rw (same_true node) (omega arith)
    by_tests false false e h = omega arith

-- one node less
pub times_without-gone : (node : ℕ) (ys : List ℕ) → times node (nodes_without node ys) ≡ 0
times_without-gone node [] = refl
times_without-gone node (y ∷ ys) = by_case (cases node y) (times_without-gone node ys)
  where
    by_case : Cases node y → times node (nodes_without node ys) ≡ 0 → times node (cond (not (y == node)) (y ∷ nodes_without node ys) (nodes_without node ys)) ≡ 0
    by_case (Same e t) h = rw t h
    by_case (Apart e t) h = rw (t, apart_false node y e) (omega arith)

pub times_without-other : (x node : ℕ) (ys : List ℕ) → (x == node) ≡ false → times x (nodes_without node ys) ≡ times x ys
times_without-other x node [] a = refl
times_without-other x node (y ∷ ys) a = by_test (y == node) refl (times_without-other x node ys a)
  where
    by_test : (t : Bool) → (y == node) ≡ t → times x (nodes_without node ys) ≡ times x ys →
        times x (cond (not t) (y ∷ nodes_without node ys) (nodes_without node ys)) ≡ times x (y ∷ ys)
    by_test true e h =
        let away : (x == y) ≡ false = ap (λ (z : ℕ). x == z) (eqb_true y node e) ∙ a in
        rw away (omega (arith, h))
    by_test false e h = ap (λ (k : ℕ). (if x == y then 1 else 0) + k) h

-- a list that rises has each node once
tail_increases : (x : ℕ) (xs : List ℕ) → IsStrictlyIncreasing (x ∷ xs) → IsStrictlyIncreasing xs
tail_increases x xs up k h =
    let step : slice_index (x ∷ xs) (suc k) < slice_index (x ∷ xs) (suc k + 1) = up (suc k) (omega arith) in
    let rest : slice_index xs k < slice_index xs (suc k) = rw add-one at step in
    rw add-one rest

above_head : (x y : ℕ) (xs : List ℕ) → IsStrictlyIncreasing (x ∷ xs) → 1 ≤ times y xs → x < y
above_head x y [] up h = absurd (omega arith)
above_head x y (z ∷ zs) up h =
    let first : x < z = up 0 (omega arith) in
    by_test (y == z) refl h first (above_head z y zs (tail_increases x (z ∷ zs) up))
  where
    by_test : (t : Bool) → (y == z) ≡ t → 1 ≤ cond t 1 0 + times y zs → x < z → (1 ≤ times y zs → z < y) → x < y
    by_test true e k first later = let same : y ≡ z = eqb_true y z e in omega arith
    by_test false e k first later = let after : z < y = later (omega arith) in omega arith

-- a node that stands first stands nowhere behind
once_first : (x y n : ℕ) → x ≡ y → (1 ≤ n → y < x) → 1 + n ≤ 1
once_first x y zero e above = omega arith
once_first x y (suc n) e above = let later : y < x = above (omega arith) in absurd (omega arith)

pub times-once : (x : ℕ) (xs : List ℕ) → IsStrictlyIncreasing xs → times x xs ≤ 1
times-once x [] up = omega arith
times-once x (y ∷ ys) up = by_test (x == y) refl (times-once x ys (tail_increases y ys up)) (above_head y x ys up)
  where
    by_test : (t : Bool) → (x == y) ≡ t → times x ys ≤ 1 → (1 ≤ times x ys → y < x) → cond t 1 0 + times x ys ≤ 1
    by_test true e h above = once_first x y (times x ys) (eqb_true x y e) above
    by_test false e h above = omega arith

-- another node than the one put in
pub times_with-other : (x node : ℕ) (ys : List ℕ) → x ≢ node → times x (nodes_with node ys) ≡ times x ys
times_with-other x node [] d = rw (apart_false x node d) refl
times_with-other x node (y ∷ ys) d = by_tests (node == y) (nat_lt node y) (times_with-other x node ys d)
  where
    by_tests : (t u : Bool) → times x (nodes_with node ys) ≡ times x ys →
        times x (cond t (y ∷ ys) (cond u (node ∷ y ∷ ys) (y ∷ nodes_with node ys))) ≡ times x (y ∷ ys)
    by_tests true u h = refl
    by_tests false true h = rw (apart_false x node d) (omega arith)
    by_tests false false h = omega (arith, h)

-- a node that isn't there isn't where one less is
pub times_without-none : (x node : ℕ) (ys : List ℕ) → times x ys ≡ 0 → times x (nodes_without node ys) ≡ 0
times_without-none x node ys h = by_case (cases node x)
  where
    by_case : Cases node x → times x (nodes_without node ys) ≡ 0
    by_case (Same e t) = subst (λ (z : ℕ). times z (nodes_without node ys) ≡ 0) e (times_without-gone node ys)
    by_case (Apart e t) = times_without-other x node ys t ∙ h
