-- How many elements of a list pass a test.
use Rattle.std.proofs.Common.{◌≡◌, ℕ, zero, suc, ◌+◌, ◌<◌, Bool, cond, not, ◌&&◌, List, [], ◌∷◌, ◌++◌, length, get_or, set, insert, take, drop, refl, sym, ap, ◌∙◌, arith, filter, All, count_by, zero-add, inl, inr}
use Rattle.std.proofs.lemmas.Bool.{cond_both, cond-true, cases_Bool}
use Rattle.std.proofs.lemmas.List.Elements.{All-head, All-tail}
use Rattle.std.proofs.lemmas.List.Sums.{sum_by-cons, sum_by-append, sum_by-set}

module _ {X : Type 0} (p : X → Bool) where
  pub count_by-cons : (x : X) (xs : List X) → count_by p (x ∷ xs) ≡ cond (p x) 1 0 + count_by p xs
  count_by-cons x xs = sum_by-cons (λ y. cond (p y) 1 0) x xs

  pub count_by-append : (xs ys : List X) → count_by p (xs ++ ys) ≡ count_by p xs + count_by p ys
  count_by-append xs ys = sum_by-append (λ x. cond (p x) 1 0) xs ys

  pub count_by-push : (xs : List X) (x : X) → count_by p (xs ++ x ∷ []) ≡ count_by p xs + cond (p x) 1 0
  count_by-push xs x = omega (arith, count_by-append xs (x ∷ []), count_by-cons x [])

  -- the two parts of a list
  in_parts : (xs : List X) (i : ℕ) → count_by p (take i xs) + count_by p (drop i xs) ≡ count_by p xs
  in_parts xs zero = zero-add (count_by p xs)
  in_parts [] (suc i) = refl
  in_parts (x ∷ xs) (suc i) =
      let rest : count_by p (take i xs) + count_by p (drop i xs) ≡ count_by p xs = in_parts xs i in
      let front : count_by p (take (suc i) (x ∷ xs)) ≡ cond (p x) 1 0 + count_by p (take i xs) = count_by-cons x (take i xs) in
      let back : count_by p (drop (suc i) (x ∷ xs)) ≡ count_by p (drop i xs) = refl in
      let all : count_by p (x ∷ xs) ≡ cond (p x) 1 0 + count_by p xs = count_by-cons x xs in
      omega (arith, rest, front, back, all)

  -- one element more, and another in the place of one
  pub count_by-insert : (xs : List X) (i : ℕ) (x : X) → count_by p (insert xs i x) ≡ count_by p xs + cond (p x) 1 0
  count_by-insert xs i x =
      let both : count_by p (insert xs i x) ≡ count_by p (take i xs) + count_by p (x ∷ drop i xs) = count_by-append (take i xs) (x ∷ drop i xs) in
      let back : count_by p (x ∷ drop i xs) ≡ cond (p x) 1 0 + count_by p (drop i xs) = count_by-cons x (drop i xs) in
      let parts : count_by p (take i xs) + count_by p (drop i xs) ≡ count_by p xs = in_parts xs i in
      omega (arith, both, back, parts)

  pub count_by-set : (xs : List X) (i : ℕ) (y d : X) → i < length xs → p y ≡ p (get_or xs i d) → count_by p (set xs i y) ≡ count_by p xs
  count_by-set xs i y d within same =
      let both : count_by p (set xs i y) + cond (p (get_or xs i d)) 1 0 ≡ count_by p xs + cond (p y) 1 0 = sum_by-set (λ x. cond (p x) 1 0) xs i y d within in
      let each : cond {A = ℕ} (p y) 1 0 ≡ cond {A = ℕ} (p (get_or xs i d)) 1 0 = ap (λ b. cond {A = ℕ} b 1 0) same in
      omega (arith, both, each)

  -- of what passes another test
  pub count_by-filter : (q : X → Bool) (xs : List X) → count_by p (filter q xs) ≡ count_by (λ x. q x && p x) xs
  count_by-filter q [] = refl
  count_by-filter q (x ∷ xs) =
      let rest = count_by (λ y. q y && p y) xs in
      cond_both (q x) (x ∷ filter q xs) (filter q xs) (λ ys. count_by p ys ≡ cond (q x && p x) 1 0 + rest)
      (λ t. count_by-cons x (filter q xs) ∙ ap (λ n. cond (p x) 1 0 + n) (count_by-filter q xs) ∙ ap (λ b. cond (b && p x) 1 0 + rest) (sym t))
      (λ f. count_by-filter q xs ∙ sym (ap (λ b. cond (b && p x) 1 0 + rest) f ∙ zero-add rest))
      ∙ sym (sum_by-cons (λ y. cond (q y && p y) 1 0) x xs)

  -- tests that agree
  pub count_by-agree : (q : X → Bool) (xs : List X) → All (λ x. p x ≡ q x) xs → count_by p xs ≡ count_by q xs
  count_by-agree q [] same = refl
  count_by-agree q (x ∷ xs) same =
      count_by-cons x xs
      ∙ ap (λ b. cond b 1 0 + count_by p xs) (All-head (λ y. p y ≡ q y) x xs same)
      ∙ ap (λ n. cond (q x) 1 0 + n) (count_by-agree q xs (All-tail (λ y. p y ≡ q y) x xs same))
      ∙ sym (sum_by-cons (λ y. cond (q y) 1 0) x xs)

  -- where none passes all are left
  pub filter-none_pass : (xs : List X) → count_by p xs ≡ 0 → filter (λ x. not (p x)) xs ≡ xs
  filter-none_pass [] none = refl
  filter-none_pass (x ∷ xs) none =
      let all : cond (p x) 1 0 + count_by p xs ≡ 0 = sym (count_by-cons x xs) ∙ none in
      elim (cases_Bool (p x)) [
        | inl t ↦ let one : cond {A = ℕ} (p x) 1 0 ≡ 1 = ap (λ b. cond {A = ℕ} b 1 0) t in absurd (omega arith)
        | inr f ↦
            let rest : count_by p xs ≡ 0 = omega arith in
            cond-true (not (p x)) (x ∷ filter (λ y. not (p y)) xs) (filter (λ y. not (p y)) xs) (ap not f)
            ∙ ap (λ ys. x ∷ ys) (filter-none_pass xs rest)
      ]
