-- The numbers from one on that pass a test: they rise, and are all.
use Rattle.std.proofs.Common.{◌≡◌, ℕ, zero, suc, ◌+◌, ◌<◌, ◌≤◌, ◌==◌, Bool, true, false, cond, List, [], ◌∷◌, length, slice_index, Contains, refl, sym, ap, ◌∙◌, subst, arith}
use Rattle.std.proofs.lemmas.Bool.{eqb-true, eqb-false}
use Rattle.std.specs.List.Sorted.{IsStrictlyIncreasing}
use Rattle.bmx_protocol.specs.Nodes.{AreAll}
use Rattle.bmx_collection.specs.Finding.{passing}

-- each is from k on
From : ℕ → List ℕ → Type 0
From k xs = (i : ℕ) → i < length xs → k ≤ slice_index xs i

rising_cons : (x : ℕ) (xs : List ℕ) → From (x + 1) xs → IsStrictlyIncreasing xs → IsStrictlyIncreasing (x ∷ xs)
unfolding From
rising_cons x xs from rising zero within =
    let e : suc zero ≡ zero + 1 = omega arith in
    subst (λ (j : ℕ). x < slice_index (x ∷ xs) j) e (omega (arith, from 0 (omega (arith, within))))
rising_cons x xs from rising (suc k) within =
    let e : suc (k + 1) ≡ suc k + 1 = omega arith in
    subst (λ (j : ℕ). slice_index xs k < slice_index (x ∷ xs) j) e (rising k (omega (arith, within)))

from_more : (k : ℕ) (xs : List ℕ) → From (k + 1) xs → From k xs
unfolding From
from_more k xs from i within = omega (arith, from i within)

from_cons : (k : ℕ) (xs : List ℕ) → From (k + 1) xs → From k (k ∷ xs)
unfolding From
from_cons k xs from zero within = omega arith
from_cons k xs from (suc i) within = omega (arith, from i (omega (arith, within)))

passing_from : (test : ℕ → Bool) (k n : ℕ) → From k (passing test k n)
unfolding From
passing_from test k zero = λ i within. absurd (omega (arith, within))
passing_from test k (suc n) = by_test (test k) (passing_from test (k + 1) n)
  where
    by_test : (b : Bool) → From (k + 1) (passing test (k + 1) n) → From k (cond b (k ∷ passing test (k + 1) n) (passing test (k + 1) n))
    by_test true h = from_cons k (passing test (k + 1) n) h
    by_test false h = from_more k (passing test (k + 1) n) h

pub passing_rises : (test : ℕ → Bool) (k n : ℕ) → IsStrictlyIncreasing (passing test k n)
passing_rises test k zero = λ i within. absurd (omega (arith, within))
passing_rises test k (suc n) = by_test (test k) (passing_rises test (k + 1) n)
  where
    by_test : (b : Bool) → IsStrictlyIncreasing (passing test (k + 1) n) → IsStrictlyIncreasing (cond b (k ∷ passing test (k + 1) n) (passing test (k + 1) n))
    by_test true h = rising_cons k (passing test (k + 1) n) (passing_from test (k + 1) n) h
    by_test false h = h

later_in_list : (x : ℕ) (xs : List ℕ) (y : ℕ) → Contains xs y → Contains (x ∷ xs) y
later_in_list x xs y (i, below, is) = (suc i, omega (arith, below), is)

pub passes : (test : ℕ → Bool) (k n y : ℕ) → Contains (passing test k n) y → test y ≡ true
passes test k zero y (i, below, is) = absurd (omega (arith, below))
passes test k (suc n) y c = by_test (test k) refl c (passes test (k + 1) n y)
  where
    by_test : (b : Bool) → test k ≡ b → Contains (cond b (k ∷ passing test (k + 1) n) (passing test (k + 1) n)) y → (Contains (passing test (k + 1) n) y → test y ≡ true) → test y ≡ true
    by_test true e (zero, below, is) rest = ap test (sym is) ∙ e
    by_test true e (suc i, below, is) rest = rest (i, omega (arith, below), is)
    by_test false e c rest = rest c

pub passed : (test : ℕ → Bool) (k n y : ℕ) → k ≤ y → y < k + n → test y ≡ true → Contains (passing test k n) y
passed test k zero y above below pass = absurd (omega (arith, above, below))
passed test k (suc n) y above below pass = by_place (k == y) (eqb-true k y) (apart k y) (λ more. passed test (k + 1) n y more (omega (arith, below)) pass)
  where
    apart : (a b : ℕ) → (a == b) ≡ false → a ≡ b → ⊥
    apart a b = eqb-false a b

    first : (b : Bool) → test k ≡ b → k ≡ y → Contains (cond b (k ∷ passing test (k + 1) n) (passing test (k + 1) n)) y
    first true e is = (0, omega arith, is)
    first false e is = (let both : false ≡ true = sym e ∙ ap test is ∙ pass in absurd cc)

    later : (b : Bool) → Contains (passing test (k + 1) n) y → Contains (cond b (k ∷ passing test (k + 1) n) (passing test (k + 1) n)) y
    later true c = later_in_list k (passing test (k + 1) n) y c
    later false c = c

    by_place : (b : Bool) → (b ≡ true → k ≡ y) → (b ≡ false → k ≡ y → ⊥) → (k + 1 ≤ y → Contains (passing test (k + 1) n) y) →
        Contains (cond (test k) (k ∷ passing test (k + 1) n) (passing test (k + 1) n)) y
    by_place true q d rest = first (test k) refl (q refl)
    by_place false q d rest = later (test k) (rest (more (k == y)))
      where
        more : Bool → k + 1 ≤ y
        more b = grind (arith, d refl)

-- those below n that pass are all that pass, where none from n on does
pub are_all : (test : ℕ → Bool) (n : ℕ) → ((x : ℕ) → test x ≡ true → x < n) → AreAll (λ x. test x ≡ true) (passing test 0 n)
are_all test n within = record {
  rising = passing_rises test 0 n;
  all = λ x. (passes test 0 n x, λ pass. passed test 0 n x (omega arith) (omega (arith, within x pass)) pass);
}

-- and where nothing has the property the list is empty
pub none_has : AreAll (λ x. ⊥) []
none_has = record { rising = λ i within. absurd (omega (arith, within)); all = λ x. (λ c. let lt : c.0 < 0 = c.1 in absurd (omega (arith, lt)), λ has. absurd has) }
