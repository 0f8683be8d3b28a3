-- Lists made number by number: what they have, and that they are in order; what is found in a list.
use Rattle.std.proofs.Common.{◌≡◌, ℕ, zero, suc, ◌+◌, ◌<◌, ◌≤◌, ◌==◌, ◌&&◌, ◌⊎◌, inl, inr, ⊎_elim, Bool, true, false, cond, List, [], ◌∷◌, ◌++◌, filter, find, flat_map, filter_map, All, AllPairs, Contains, refl, ap, sym, ◌∙◌, subst, arith}
use Rattle.std.specs.Prelude.{Option, Some, None, map}
use Rattle.std.specs.List.{cons_option}
use Rattle.std.proofs.lemmas.Bool.Decides.{nat_tests}
use Rattle.std.specs.List.Sorted.{IsStrictlyIncreasing}
use Rattle.std.proofs.lemmas.List.Elements.{All-nil, All-cons, All-append, Contains-append_left, Contains-append_right, Contains-append_cases}
use Rattle.std.proofs.lemmas.List.Kept.{AllPairs-cons}
use Rattle.bmx_owner.proofs.Parts.{AllPairs-append}
use Rattle.bmx_collection.specs.Finding.{passing}

pub both : (a b : Bool) → (a && b) ≡ true → (a ≡ true) × (b ≡ true)
both true b e = (refl, e)
both false b e = cc

pub clash : (b : Bool) → b ≡ true → b ≡ false → ⊥
clash b t f = (let one : true ≡ false = sym t ∙ f in cc)

pub append_nil : {X : Type 0} (xs : List X) → xs ++ [] ≡ xs
append_nil [] = refl
append_nil (x ∷ xs) = ap (λ (l : List _). x ∷ l) (append_nil xs)

-- the numbers from k on
abbrev pub upto : ℕ → ℕ → List ℕ
upto k n = passing (λ x. true) k n

pub nothing_in : {X : Type 0} (x : X) → Contains [] x → ⊥
nothing_in x (k, lt, is) = absurd (omega (arith, lt))

pub first_of : {X : Type 0} (x : X) (xs : List X) → Contains (x ∷ xs) x
first_of x xs = (0, omega arith, refl)

pub behind : {X : Type 0} (x y : X) (xs : List X) → Contains xs y → Contains (x ∷ xs) y
behind x y xs (k, lt, is) = (suc k, omega (arith, lt), is)

pub one_of : {X : Type 0} (x y : X) (xs : List X) → Contains (x ∷ xs) y → (x ≡ y) ⊎ Contains xs y
one_of x y xs (zero, lt, is) = inl is
one_of x y xs (suc k, lt, is) = inr (k, omega (arith, lt), is)

pub no_pairs : {X : Type 0} (R : X → X → Type 0) → AllPairs R []
no_pairs R i j d lt within = absurd (omega (arith, within))

pub rises_by_pairs : (xs : List ℕ) → AllPairs (λ x y. x < y) xs → IsStrictlyIncreasing xs
rises_by_pairs xs pairs k lt = pairs k (k + 1) 0 (omega arith) (omega (arith, lt))

at_or_above : (k j : ℕ) → k ≤ j → (k ≡ j) ⊎ (k + 1 ≤ j)
at_or_above k j above = by (k == j) refl
  where
    by : (b : Bool) → (k == j) ≡ b → (k ≡ j) ⊎ (k + 1 ≤ j)
    by true e = inl (grind (arith, nat_tests, e))
    by false e = inr (grind (arith, nat_tests, e, above))

-- ## lists for one number after another, one behind another

module _ {X : Type 0} (f : ℕ → List X) where
  pub in_flat : (k n j : ℕ) (x : X) → k ≤ j → j < k + n → Contains (f j) x → Contains (flat_map f (upto k n)) x
  in_flat k zero j x above below c = absurd (omega (arith, above, below))
  in_flat k (suc n) j x above below c = ⊎_elim
      (λ same. Contains-append_left (f k) (flat_map f (upto (k + 1) n)) x (subst (λ (i : ℕ). Contains (f i) x) (sym same) c))
      (λ more. Contains-append_right (f k) (flat_map f (upto (k + 1) n)) x (in_flat (k + 1) n j x more (omega (arith, below)) c))
      (at_or_above k j above)

  pub from_flat : (k n : ℕ) (x : X) → Contains (flat_map f (upto k n)) x → (j : ℕ) × (k ≤ j) × (j < k + n) × Contains (f j) x
  from_flat k zero x c = absurd (nothing_in x c)
  from_flat k (suc n) x c = ⊎_elim
      (λ here. (k, omega arith, omega arith, here))
      (λ there. let it : (j : ℕ) × (k + 1 ≤ j) × (j < k + 1 + n) × Contains (f j) x = from_flat (k + 1) n x there in
      (let above : k + 1 ≤ it.0 = it.1 in let below : it.0 < k + 1 + n = it.2 in (it.0, omega (arith, above), omega (arith, below), it.3)))
      (Contains-append_cases (f k) (flat_map f (upto (k + 1) n)) x c)

  module _ (R : X → X → Type 0) (each : (k : ℕ) → AllPairs R (f k)) (across : (k j : ℕ) → k < j → All (λ x. All (R x) (f j)) (f k)) where
    above_rest : (k j n : ℕ) → k < j → All (λ x. All (R x) (flat_map f (upto j n))) (f k)
    above_rest k j zero lt = λ i d within i' d' within'. absurd (omega (arith, within'))
    above_rest k j (suc n) lt = λ i d within.
        All-append (R _) (f j) (flat_map f (upto (j + 1) n)) (across k j lt i d within) (above_rest k (j + 1) n (omega (arith, lt)) i d within)

    pub flat_in_order : (k n : ℕ) → AllPairs R (flat_map f (upto k n))
    flat_in_order k zero = no_pairs R
    flat_in_order k (suc n) =
        AllPairs-append R (f k) (flat_map f (upto (k + 1) n)) (each k) (flat_in_order (k + 1) n) (above_rest k (k + 1) n (omega arith))

-- ## what is given for some numbers

module _ {X : Type 0} (h : ℕ → Option X) where
  pub in_given : (k n j : ℕ) (x : X) → k ≤ j → j < k + n → h j ≡ Some x → Contains (filter_map h (upto k n)) x
  in_given k zero j x above below is = absurd (omega (arith, above, below))
  in_given k (suc n) j x above below is = ⊎_elim
      (λ same. here (h k) (ap h same ∙ is))
      (λ more. there (h k) (in_given (k + 1) n j x more (omega (arith, below)) is))
      (at_or_above k j above)
    where
      here : (o : Option X) → o ≡ Some x → Contains (cons_option o (filter_map h (upto (k + 1) n))) x
      here None e = cc
      here (Some y) e = (let same : y ≡ x = cc in (0, omega arith, same))

      there : (o : Option X) → Contains (filter_map h (upto (k + 1) n)) x → Contains (cons_option o (filter_map h (upto (k + 1) n))) x
      there None c = c
      there (Some y) c = behind y x (filter_map h (upto (k + 1) n)) c

  pub from_given : (k n : ℕ) (x : X) → Contains (filter_map h (upto k n)) x → (j : ℕ) × (k ≤ j) × (j < k + n) × (h j ≡ Some x)
  from_given k zero x c = absurd (nothing_in x c)
  from_given k (suc n) x c = by (h k) refl c (from_given (k + 1) n x)
    where
      later : (j : ℕ) × (k + 1 ≤ j) × (j < k + 1 + n) × (h j ≡ Some x) → (j : ℕ) × (k ≤ j) × (j < k + suc n) × (h j ≡ Some x)
      later it = (let above : k + 1 ≤ it.0 = it.1 in let below : it.0 < k + 1 + n = it.2 in (it.0, omega (arith, above), omega (arith, below), it.3))

      by : (o : Option X) → h k ≡ o → Contains (cons_option o (filter_map h (upto (k + 1) n))) x →
          (Contains (filter_map h (upto (k + 1) n)) x → (j : ℕ) × (k + 1 ≤ j) × (j < k + 1 + n) × (h j ≡ Some x)) →
          (j : ℕ) × (k ≤ j) × (j < k + suc n) × (h j ≡ Some x)
      by None e c rest = later (rest c)
      by (Some y) e c rest = ⊎_elim
          (λ same. (k, omega arith, omega arith, e ∙ ap Some same))
          (λ more. later (rest more))
          (one_of y x (filter_map h (upto (k + 1) n)) c)

  module _ (R : X → X → Type 0) (rise : (i j : ℕ) (x y : X) → i < j → h i ≡ Some x → h j ≡ Some y → R x y) where
    above_given : (i : ℕ) (x : X) → h i ≡ Some x → (k n : ℕ) → i < k → All (R x) (filter_map h (upto k n))
    above_given i x is k zero lt = All-nil (R x)
    above_given i x is k (suc n) lt = by (h k) refl (above_given i x is (k + 1) n (omega (arith, lt)))
      where
        by : (o : Option X) → h k ≡ o → All (R x) (filter_map h (upto (k + 1) n)) → All (R x) (cons_option o (filter_map h (upto (k + 1) n)))
        by None e rest = rest
        by (Some y) e rest = All-cons (R x) y (filter_map h (upto (k + 1) n)) (rise i k x y lt is e) rest

    pub given_in_order : (k n : ℕ) → AllPairs R (filter_map h (upto k n))
    given_in_order k zero = no_pairs R
    given_in_order k (suc n) = by (h k) refl (given_in_order (k + 1) n)
      where
        by : (o : Option X) → h k ≡ o → AllPairs R (filter_map h (upto (k + 1) n)) → AllPairs R (cons_option o (filter_map h (upto (k + 1) n)))
        by None e rest = rest
        by (Some y) e rest = AllPairs-cons R y (filter_map h (upto (k + 1) n)) (above_given k y e (k + 1) n (omega arith)) rest

pub map_is_given : {X : Type 0} (g : ℕ → X) (xs : List ℕ) → map g xs ≡ filter_map (λ j. Some (g j)) xs
map_is_given g [] = refl
map_is_given g (x ∷ xs) = ap (λ (l : List _). g x ∷ l) (map_is_given g xs)

-- ## filters and finds

pub in_filter : {X : Type 0} (p : X → Bool) (xs : List X) (x : X) → Contains xs x → p x ≡ true → Contains (filter p xs) x
in_filter p [] x c e = absurd (nothing_in x c)
in_filter p (y ∷ xs) x c e = ⊎_elim
    (λ same. here (p y) (ap p same ∙ e) same)
    (λ there. later (p y) (in_filter p xs x there e))
    (one_of y x xs c)
  where
    here : (b : Bool) → b ≡ true → y ≡ x → Contains (cond b (y ∷ filter p xs) (filter p xs)) x
    here true t same = (0, omega arith, same)
    here false t same = cc

    later : (b : Bool) → Contains (filter p xs) x → Contains (cond b (y ∷ filter p xs) (filter p xs)) x
    later true c = behind y x (filter p xs) c
    later false c = c

pub from_filter : {X : Type 0} (p : X → Bool) (xs : List X) (x : X) → Contains (filter p xs) x → Contains xs x × (p x ≡ true)
from_filter p [] x c = absurd (nothing_in x c)
from_filter p (y ∷ xs) x c = by (p y) refl c (from_filter p xs x)
  where
    later : Contains xs x × (p x ≡ true) → Contains (y ∷ xs) x × (p x ≡ true)
    later it = (behind y x xs it.0, it.1)

    by : (b : Bool) → p y ≡ b → Contains (cond b (y ∷ filter p xs) (filter p xs)) x → (Contains (filter p xs) x → Contains xs x × (p x ≡ true)) →
        Contains (y ∷ xs) x × (p x ≡ true)
    by false e c rest = later (rest c)
    by true e c rest = ⊎_elim
        (λ same. ((0, omega arith, same), ap p (sym same) ∙ e))
        (λ more. later (rest more))
        (one_of y x (filter p xs) c)

-- the one that passes is found
pub find_one_of : {X : Type 0} (p : X → Bool) (xs : List X) (x : X) → Contains xs x → p x ≡ true → ((y : X) → Contains xs y → p y ≡ true → y ≡ x) → find p xs ≡ Some x
find_one_of p [] x c e one = absurd (nothing_in x c)
find_one_of p (y ∷ xs) x c e one = by (p y) refl (λ there. find_one_of p xs x there e (λ z has pass. one z (behind y z xs has) pass))
  where
    rest : p y ≡ false → Contains xs x
    rest fails = ⊎_elim
        (λ same. let both : true ≡ false = sym e ∙ ap p (sym same) ∙ fails in absurd cc)
        (λ there. there)
        (one_of y x xs c)

    by : (b : Bool) → p y ≡ b → (Contains xs x → find p xs ≡ Some x) → cond b (Some y) (find p xs) ≡ Some x
    by true is later = ap Some (one y (first_of y xs) is)
    by false is later = later (rest is)

-- where none passes none is found
pub find_no : {X : Type 0} (p : X → Bool) (xs : List X) → ((y : X) → Contains xs y → p y ≡ true → ⊥) → find p xs ≡ None
find_no p [] none = refl
find_no p (y ∷ xs) none = by (p y) refl (find_no p xs (λ z there pass. none z (behind y z xs there) pass))
  where
    by : (b : Bool) → p y ≡ b → find p xs ≡ None → cond b (Some y) (find p xs) ≡ None
    by true is rest = absurd (none y (first_of y xs) is)
    by false is rest = rest
