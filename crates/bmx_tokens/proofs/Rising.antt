-- Rising lists of names: one is put in at its place, or taken out.
use Rattle.std.proofs.Common.{◌≡◌, ◌≢◌, ℕ, zero, suc, ◌+◌, ◌-◌, ◌<◌, ◌≤◌, Bool, true, false, List, [], ◌∷◌, length, get_or, insert, remove, sym, ap, ◌∙◌, subst, arith, refl, cond, ⊎_elim, inl, inr, nat_lt, ◌==◌, le_of_eq, le_of_lt, Result, Ok, Err, MatchResult, nat_cmp}
use Rattle.std.specs.Prelude.{not, AllPairs}
use Rattle.std.specs.List.{slice_index}
use Rattle.std.specs.List.Sorted.{IsStrictlyIncreasing, IsBinarySearchResult}
use Rattle.std.proofs.lemmas.List.Sorted.{searched}
use Rattle.std.proofs.lemmas.List.Kept.{AllPairs-from_increasing}
use Rattle.std.proofs.lemmas.List.Edits.{get_or-insert_at, get_or-insert_below, get_or-insert_above}
use Rattle.std.proofs.lemmas.Bool.{cases_eq, cases_lt}
use Rattle.std.proofs.lemmas.Bool.Decides.{nat_tests}
use Rattle.bmx_token.specs.Nodes.{nodes_with as names_with, nodes_without as names_without}

-- where a search finds a name in rising names, or else where it belongs
abbrev pub IsPlace : List ℕ → ℕ → Result ℕ ℕ → Type 0
IsPlace xs x r =
    MatchResult r (λ i. (i < length xs) × (get_or xs i 0 ≡ x))
    (λ i. (i ≤ length xs) × ((k : ℕ) → k < i → get_or xs k 0 < x) × ((k : ℕ) → i ≤ k → k < length xs → x < get_or xs k 0))

pub found_place : (xs : List ℕ) (x : ℕ) (r : Result ℕ ℕ) → IsStrictlyIncreasing xs → IsBinarySearchResult (λ y. nat_cmp y x) xs r → IsPlace xs x r
found_place xs x r rising found =
    searched xs x r found (λ i j le within. ⊎_elim
    (λ same. le_of_eq (ap (λ k. get_or xs k 0) same))
    (λ apart. le_of_lt (AllPairs-from_increasing xs rising i j 0 (omega arith) within))
    (cases_eq i j))

-- where it was found, and where it wasn't
pub found_at : (xs : List ℕ) (x : ℕ) (r : Result ℕ ℕ) (i : ℕ) → IsPlace xs x r → r ≡ Ok i → (i < length xs) × (get_or xs i 0 ≡ x)
found_at xs x r i h is = subst (IsPlace xs x) is h

pub fits_at : (xs : List ℕ) (x : ℕ) (r : Result ℕ ℕ) (i : ℕ) → IsPlace xs x r → r ≡ Err i →
    (i ≤ length xs) × ((k : ℕ) → k < i → get_or xs k 0 < x) × ((k : ℕ) → i ≤ k → k < length xs → x < get_or xs k 0)
fits_at xs x r i h is = subst (IsPlace xs x) is h

-- the rest of rising names rises, and each of it is greater than the first
rest_rises : (x : ℕ) (xs : List ℕ) → IsStrictlyIncreasing (x ∷ xs) → IsStrictlyIncreasing xs
rest_rises x xs h = λ k b.
    let e : suc k + 1 ≡ suc (k + 1) = omega arith in
    subst (λ j. slice_index (x ∷ xs) (suc k) < slice_index (x ∷ xs) j) e (h (suc k) (omega arith))

-- at its place a name is put in
pub with-new : (x : ℕ) (xs : List ℕ) (i : ℕ) → i ≤ length xs → ((k : ℕ) → k < i → get_or xs k 0 < x) →
    ((k : ℕ) → i ≤ k → k < length xs → x < get_or xs k 0) → names_with x xs ≡ insert xs i x
with-new x [] zero b low high = refl
with-new x [] (suc i) b low high = absurd (omega arith)
with-new x (y ∷ ys) zero b low high =
    let above : x < y = high 0 (omega arith) (omega arith) in
    let ne : (x == y) ≡ false = grind (arith, nat_tests) in
    let lt : nat_lt x y ≡ true = grind (arith, nat_tests) in
    rw (ne, lt) refl
with-new x (y ∷ ys) (suc i) b low high =
    let below : y < x = low 0 (omega arith) in
    let ne : (x == y) ≡ false = grind (arith, nat_tests) in
    let ge : nat_lt x y ≡ false = grind (arith, nat_tests) in
    let rest : names_with x ys ≡ insert ys i x =
    with-new x ys i (omega arith) (λ k lt. low (suc k) (omega arith)) (λ k le within. high (suc k) (omega arith) (omega arith)) in
    rw (ne, ge) (ap (λ (l : List ℕ). y ∷ l) rest)

-- a name that is there stays
pub with-old : (x : ℕ) (xs : List ℕ) (i : ℕ) → IsStrictlyIncreasing xs → i < length xs → get_or xs i 0 ≡ x → names_with x xs ≡ xs
with-old x [] i rises b at = absurd (omega arith)
with-old x (y ∷ ys) zero rises b at =
    let same : (x == y) ≡ true = grind (arith, nat_tests) in
    rw same refl
with-old x (y ∷ ys) (suc i) rises b at =
    let below : y < get_or ys i 0 = AllPairs-from_increasing (y ∷ ys) rises 0 (suc i) 0 (omega arith) (omega arith) in
    let ne : (x == y) ≡ false = grind (arith, nat_tests) in
    let ge : nat_lt x y ≡ false = grind (arith, nat_tests) in
    rw (ne, ge) (ap (λ (l : List ℕ). y ∷ l) (with-old x ys i (rest_rises y ys rises) (omega arith) at))

-- a name that isn't there isn't taken out
pub without-none : (x : ℕ) (xs : List ℕ) → ((k : ℕ) → k < length xs → get_or xs k 0 ≢ x) → names_without x xs ≡ xs
without-none x [] none = refl
without-none x (y ∷ ys) none =
    let apart : y ≢ x = none 0 (omega arith) in
    let ne : (y == x) ≡ false = grind (arith, nat_tests) in
    rw ne (ap (λ (l : List ℕ). y ∷ l) (without-none x ys (λ k b. none (suc k) (omega arith))))

-- a name is taken out from where it is
pub without-at : (x : ℕ) (xs : List ℕ) (i : ℕ) → IsStrictlyIncreasing xs → i < length xs → get_or xs i 0 ≡ x → names_without x xs ≡ remove xs i
without-at x [] i rises b at = absurd (omega arith)
without-at x (y ∷ ys) zero rises b at =
    let same : (y == x) ≡ true = grind (arith, nat_tests) in
    rw same (without-none x ys (λ k within is.
    let above : y < get_or ys k 0 = AllPairs-from_increasing (y ∷ ys) rises 0 (suc k) 0 (omega arith) (omega arith) in
    omega arith))
without-at x (y ∷ ys) (suc i) rises b at =
    let below : y < get_or ys i 0 = AllPairs-from_increasing (y ∷ ys) rises 0 (suc i) 0 (omega arith) (omega arith) in
    let ne : (y == x) ≡ false = grind (arith, nat_tests) in
    rw ne (ap (λ (l : List ℕ). y ∷ l) (without-at x ys i (rest_rises y ys rises) (omega arith) at))

-- what belongs elsewhere isn't there
pub without-elsewhere : (x : ℕ) (xs : List ℕ) (i : ℕ) → ((k : ℕ) → k < i → get_or xs k 0 < x) →
    ((k : ℕ) → i ≤ k → k < length xs → x < get_or xs k 0) → names_without x xs ≡ xs
without-elsewhere x xs i low high = without-none x xs (λ k within is. ⊎_elim
    (λ (front : k < i). let lt : get_or xs k 0 < x = low k front in omega arith)
    (λ (back : i ≤ k). let lt : x < get_or xs k 0 = high k back within in omega arith)
    (cases_lt k i))
