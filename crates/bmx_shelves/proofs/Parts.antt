-- Filters that keep a prefix or the rest of a list, and what is found in a filter.
use Rattle.std.proofs.Common.{◌≡◌, ℕ, zero, suc, ◌+◌, ◌<◌, ◌≤◌, Bool, true, false, cond, not, List, [], ◌∷◌, ◌++◌, length, get_or, take, drop, Some, None, refl, sym, ap, ◌∙◌, subst, arith, filter, find, All, AllPairs, count_by}
use Rattle.std.specs.List.{AllWithin}
use Rattle.std.proofs.lemmas.Bool.{cond_both, cond-true, cond-false}
use Rattle.std.proofs.lemmas.List.Elements.{All-append, All-head, All-tail}
use Rattle.std.proofs.lemmas.List.Kept.{AllPairs-cons}
use Rattle.std.proofs.lemmas.List.Filters.{length-filter_both}
use Rattle.std.proofs.lemmas.List.Sums.{length-filter}

module _ {X : Type 0} where
  -- what stands below place i of a list with x before it
  below_tail : (P : X → Type 0) (x : X) (xs : List X) (i : ℕ) → AllWithin P (x ∷ xs) 0 (suc i) → AllWithin P xs 0 i
  below_tail P x xs i h k d low high = h (suc k) d (omega arith) (omega arith)

  above_tail : (P : X → Type 0) (x : X) (xs : List X) (i n : ℕ) → AllWithin P (x ∷ xs) (suc i) (suc n) → AllWithin P xs i n
  above_tail P x xs i n h k d low high = h (suc k) d (omega arith) (omega arith)

  all_tail : (P : X → Type 0) (x : X) (xs : List X) (n : ℕ) → AllWithin P (x ∷ xs) 0 (suc n) → AllWithin P xs 0 n
  all_tail P x xs n h k d low high = h (suc k) d (omega arith) (omega arith)

  -- a filter that no element passes, and one that each passes
  pub filter_none : (p : X → Bool) (xs : List X) → AllWithin (λ y. p y ≡ false) xs 0 (length xs) → filter p xs ≡ []
  filter_none p [] h = refl
  filter_none p (x ∷ xs) h =
      cond-false (p x) (x ∷ filter p xs) (filter p xs) (h 0 x (omega arith) (omega arith))
      ∙ filter_none p xs (all_tail (λ y. p y ≡ false) x xs (length xs) h)

  pub filter_all : (p : X → Bool) (xs : List X) → AllWithin (λ y. p y ≡ true) xs 0 (length xs) → filter p xs ≡ xs
  filter_all p [] h = refl
  filter_all p (x ∷ xs) h =
      cond-true (p x) (x ∷ filter p xs) (filter p xs) (h 0 x (omega arith) (omega arith))
      ∙ ap (λ ys. x ∷ ys) (filter_all p xs (all_tail (λ y. p y ≡ true) x xs (length xs) h))

  -- a filter that the elements below place i pass, and no other
  pub filter_front : (p : X → Bool) (xs : List X) (i : ℕ) → i ≤ length xs → AllWithin (λ y. p y ≡ true) xs 0 i → AllWithin (λ y. p y ≡ false) xs i (length xs) → take i xs ≡ filter p xs
  filter_front p xs zero le front rest = sym (filter_none p xs rest)
  filter_front p [] (suc i) le front rest = refl
  filter_front p (x ∷ xs) (suc i) le front rest =
      ap (λ ys. x ∷ ys) (filter_front p xs i (omega arith) (below_tail (λ y. p y ≡ true) x xs i front) (above_tail (λ y. p y ≡ false) x xs i (length xs) rest))
      ∙ sym (cond-true (p x) (x ∷ filter p xs) (filter p xs) (front 0 x (omega arith) (omega arith)))

  -- a filter that the elements from place i on pass, and no other
  pub filter_rest : (p : X → Bool) (xs : List X) (i : ℕ) → AllWithin (λ y. p y ≡ false) xs 0 i → AllWithin (λ y. p y ≡ true) xs i (length xs) → drop i xs ≡ filter p xs
  filter_rest p xs zero front rest = sym (filter_all p xs rest)
  filter_rest p [] (suc i) front rest = refl
  filter_rest p (x ∷ xs) (suc i) front rest =
      filter_rest p xs i (below_tail (λ y. p y ≡ false) x xs i front) (above_tail (λ y. p y ≡ true) x xs i (length xs) rest)
      ∙ sym (cond-false (p x) (x ∷ filter p xs) (filter p xs) (front 0 x (omega arith) (omega arith)))

  -- the element at place i is the first to pass
  pub find_at : (p : X → Bool) (xs : List X) (i : ℕ) (d : X) → i < length xs → AllWithin (λ y. p y ≡ false) xs 0 i → p (get_or xs i d) ≡ true → find p xs ≡ Some (get_or xs i d)
  find_at p [] i d lt front at = absurd (omega arith)
  find_at p (x ∷ xs) zero d lt front at = cond-true (p x) (Some x) (find p xs) at
  find_at p (x ∷ xs) (suc i) d lt front at =
      cond-false (p x) (Some x) (find p xs) (front 0 x (omega arith) (omega arith))
      ∙ find_at p xs i d (omega arith) (below_tail (λ y. p y ≡ false) x xs i front) at

  -- none passes
  pub find_none : (p : X → Bool) (xs : List X) → AllWithin (λ y. p y ≡ false) xs 0 (length xs) → find p xs ≡ None
  find_none p [] h = refl
  find_none p (x ∷ xs) h =
      cond-false (p x) (Some x) (find p xs) (h 0 x (omega arith) (omega arith))
      ∙ find_none p xs (all_tail (λ y. p y ≡ false) x xs (length xs) h)

  -- a filter that keeps each element that passes the search
  pub find-filter_kept : (p q : X → Bool) → ((x : X) → p x ≡ true → q x ≡ true) → (xs : List X) → find p (filter q xs) ≡ find p xs
  find-filter_kept p q keeps [] = refl
  find-filter_kept p q keeps (x ∷ xs) =
      cond_both (q x) (x ∷ filter q xs) (filter q xs) (λ ys. find p ys ≡ find p (x ∷ xs))
      (λ _. ap (λ o. cond (p x) (Some x) o) (find-filter_kept p q keeps xs))
      (λ out. find-filter_kept p q keeps xs ∙ sym (cond-false (p x) (Some x) (find p xs) (unpassed (p x) (q x) (keeps x) out)))
    where
      unpassed : (a b : Bool) → (a ≡ true → b ≡ true) → b ≡ false → a ≡ false
      unpassed true b h e = sym (h refl) ∙ e
      unpassed false b h e = refl

  -- a filter that drops each
  pub find-filter_dropped : (p q : X → Bool) → ((x : X) → p x ≡ true → q x ≡ false) → (xs : List X) → find p (filter q xs) ≡ None
  find-filter_dropped p q drops [] = refl
  find-filter_dropped p q drops (x ∷ xs) =
      cond_both (q x) (x ∷ filter q xs) (filter q xs) (λ ys. find p ys ≡ None)
      (λ kept. cond-false (p x) (Some x) (find p (filter q xs)) (unpassed (p x) (q x) (drops x) kept) ∙ find-filter_dropped p q drops xs)
      (λ _. find-filter_dropped p q drops xs)
    where
      unpassed : (a b : Bool) → (a ≡ true → b ≡ false) → b ≡ true → a ≡ false
      unpassed true b h e = sym e ∙ h refl
      unpassed false b h e = refl

  -- what is found passes
  pub find_passes : (p : X → Bool) (xs : List X) (x : X) → find p xs ≡ Some x → p x ≡ true
  find_passes p [] x e = cc
  find_passes p (y ∷ xs) x e =
      cond_both (p y) (Some y) (find p xs) (λ o. o ≡ Some x → p x ≡ true)
      (λ h same. let is : y ≡ x = cc in subst (λ z. p z ≡ true) is h)
      (λ _ rest. find_passes p xs x rest) e

  -- a search in two lists
  pub find-append_none : (p : X → Bool) (xs ys : List X) → find p xs ≡ None → find p (xs ++ ys) ≡ find p ys
  find-append_none p [] ys e = refl
  find-append_none p (x ∷ xs) ys e =
      cond_both (p x) (Some x) (find p xs) (λ o. o ≡ None → cond (p x) (Some x) (find p (xs ++ ys)) ≡ find p ys)
      (λ _ bad. cc)
      (λ out rest. cond-false (p x) (Some x) (find p (xs ++ ys)) out ∙ find-append_none p xs ys rest) e

  pub find-append_last : (p : X → Bool) (xs ys : List X) → find p ys ≡ None → find p (xs ++ ys) ≡ find p xs
  find-append_last p [] ys e = e
  find-append_last p (x ∷ xs) ys e = ap (λ o. cond (p x) (Some x) o) (find-append_last p xs ys e)

  -- a relation of each element and each later one, in two lists joined
  pub AllPairs-append : (R : X → X → Type 0) (xs ys : List X) → AllPairs R xs → AllPairs R ys → All (λ x. All (R x) ys) xs → AllPairs R (xs ++ ys)
  AllPairs-append R [] ys front rest across = rest
  AllPairs-append R (x ∷ xs) ys front rest across =
      AllPairs-cons R x (xs ++ ys)
      (All-append (R x) xs ys (λ k d within. front zero (suc k) d (omega arith) (omega arith)) (All-head (λ x. All (R x) ys) x xs across))
      (AllPairs-append R xs ys (λ i j d lt within. front (suc i) (suc j) d (omega arith) (omega arith)) rest (All-tail (λ x. All (R x) ys) x xs across))

  pub AllPairs-tail : (R : X → X → Type 0) (x : X) (xs : List X) → AllPairs R (x ∷ xs) → AllPairs R xs
  AllPairs-tail R x xs h i j d lt within = h (suc i) (suc j) d (omega arith) (omega arith)

  pub AllPairs-head : (R : X → X → Type 0) (x : X) (xs : List X) → AllPairs R (x ∷ xs) → All (R x) xs
  AllPairs-head R x xs h k d within = h zero (suc k) d (omega arith) (omega arith)

  -- how many a filter leaves out
  pub length-filter_not : (p : X → Bool) (xs : List X) → length (filter (λ x. not (p x)) xs) + count_by p xs ≡ length xs
  length-filter_not p xs = omega (arith, length-filter_both p (λ x. not (p x)) (λ _. refl) xs, length-filter p xs)
