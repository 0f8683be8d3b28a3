-- Rising lists with the same members are the same; what a list has, a test finds.
use Rattle.std.proofs.Common.{◌≡◌, ℕ, zero, suc, ◌<◌, ◌≤◌, ◌==◌, Bool, ◌||◌, true, false, List, [], ◌∷◌, Contains, refl, ap, subst, arith, AllPairs}
use Rattle.std.proofs.lemmas.Bool.Decides.{nat_tests}
use Rattle.std.proofs.lemmas.Map.Made.{Contains-tail}
use Rattle.std.proofs.lemmas.List.Kept.{AllPairs-from_increasing}
use Rattle.bmx_owner.proofs.Parts.{AllPairs-head, AllPairs-tail}
use Rattle.bmx_owner.specs.Records.{is_listed}
use Rattle.bmx_protocol.specs.Nodes.{AreAll}

abbrev Rise : List ℕ → Type 0
Rise xs = AllPairs (λ x y. x < y) xs

none_in : (q : ℕ) → Contains [] q → ⊥
none_in q (k, lt, is) = absurd (omega (arith, lt))

first_in : (x : ℕ) (xs : List ℕ) → Contains (x ∷ xs) x
first_in x xs = (0, omega arith, refl)

later_in : (x q : ℕ) (xs : List ℕ) → Contains xs q → Contains (x ∷ xs) q
later_in x q xs (k, lt, is) = (suc k, omega (arith, lt), is)

-- the test of a list finds what it has, and nothing else
pub listed : (xs : List ℕ) (q : ℕ) → Contains xs q → is_listed xs q ≡ true
listed [] q c = absurd (none_in q c)
listed (x ∷ xs) q (zero, lt, is) = (let e : (x == q) ≡ true = grind (arith, nat_tests, is) in ap (λ (b : Bool). b || is_listed xs q) e)
listed (x ∷ xs) q (suc k, lt, is) = (let e : is_listed xs q ≡ true = listed xs q (k, omega (arith, lt), is) in either (x == q) (is_listed xs q) e)
  where
    either : (a b : Bool) → b ≡ true → (a || b) ≡ true
    either true b e = refl
    either false b e = e

pub listed_there : (xs : List ℕ) (q : ℕ) → is_listed xs q ≡ true → Contains xs q
listed_there [] q e = cc
listed_there (x ∷ xs) q e = by (x == q) refl (listed_there xs q) e
  where
    by : (b : Bool) → (x == q) ≡ b → (is_listed xs q ≡ true → Contains xs q) → (b || is_listed xs q) ≡ true → Contains (x ∷ xs) q
    by true here later e = (let is : x ≡ q = grind (arith, nat_tests, here) in (0, omega arith, is))
    by false here later e = later_in x q xs (later e)

-- what stands behind the first is above it
above : (x q : ℕ) (xs : List ℕ) → Rise (x ∷ xs) → Contains xs q → x < q
above x q xs rise (k, lt, is) = subst (λ z. x < z) is (AllPairs-head (λ a b. a < b) x xs rise k q lt)

-- and the first is the least
least : (x q : ℕ) (xs : List ℕ) → Rise (x ∷ xs) → Contains (x ∷ xs) q → x ≤ q
least x q xs rise (zero, lt, is) = omega (arith, is)
least x q xs rise (suc k, lt, is) = (let up : x < q = above x q xs rise (k, omega (arith, lt), is) in omega (arith, up))

pub same_members : (xs ys : List ℕ) → Rise xs → Rise ys →
    ((q : ℕ) → Contains xs q → Contains ys q) → ((q : ℕ) → Contains ys q → Contains xs q) → xs ≡ ys
same_members [] [] rx ry f g = refl
same_members [] (y ∷ ys) rx ry f g = absurd (none_in y (g y (first_in y ys)))
same_members (x ∷ xs) [] rx ry f g = absurd (none_in x (f x (first_in x xs)))
same_members (x ∷ xs) (y ∷ ys) rx ry f g =
    let up : y ≤ x = least y x ys ry (f x (first_in x xs)) in
    let down : x ≤ y = least x y xs rx (g y (first_in y ys)) in
    let heads : x ≡ y = omega (arith, up, down) in
    let tails : xs ≡ ys =
    same_members xs ys (AllPairs-tail (λ a b. a < b) x xs rx) (AllPairs-tail (λ a b. a < b) y ys ry)
    (λ q c. Contains-tail y ys q (λ e. let lt : x < q = above x q xs rx c in omega (arith, e, lt, heads)) (f q (later_in x q xs c)))
    (λ q c. Contains-tail x xs q (λ e. let lt : y < q = above y q ys ry c in omega (arith, e, lt, heads)) (g q (later_in y q ys c))) in
    cc

-- the list of all that has a property is one
pub same_lists : (Has : ℕ → Type 0) (xs ys : List ℕ) → AreAll Has xs → AreAll Has ys → xs ≡ ys
same_lists Has xs ys a b =
    same_members xs ys (AllPairs-from_increasing xs a.rising) (AllPairs-from_increasing ys b.rising)
    (λ q c. (b.all q).1 ((a.all q).0 c)) (λ q c. (a.all q).1 ((b.all q).0 c))
