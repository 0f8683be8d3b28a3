-- Lists that are read item by item from the first on.
use Rattle.std.proofs.Common.{◌≡◌, ℕ, zero, suc, ◌<◌, List, [], ◌∷◌, ◌++◌, length, take, slice_get, Some, None, refl, sym, ap, ◌∙◌, arith}

module _ {X : Type 0} where
  tail_is : (x y : X) (xs ys : List X) → x ∷ xs ≡ y ∷ ys → xs ≡ ys
  tail_is x y xs ys e = cc

  head_is : (x y : X) (xs ys : List X) → x ∷ xs ≡ y ∷ ys → x ≡ y
  head_is x y xs ys e = cc

  -- what was read is a prefix, and so is it with the next item behind it
  pub prefix-more : (xs ys : List X) (x : X) → take (length ys) xs ≡ ys → slice_get xs (length ys) ≡ Some x → take (length (ys ++ x ∷ [])) xs ≡ ys ++ x ∷ []
  prefix-more [] [] x e h = cc
  prefix-more (y ∷ xs) [] x e h = cc
  prefix-more [] (z ∷ ys) x e h = cc
  prefix-more (y ∷ xs) (z ∷ ys) x e h =
      let first : y ≡ z = head_is y z (take (length ys) xs) ys e in
      let rest : take (length (ys ++ x ∷ [])) xs ≡ ys ++ x ∷ [] = prefix-more xs ys x (tail_is y z (take (length ys) xs) ys e) h in
      ap (λ t. y ∷ t) rest ∙ ap (λ w. w ∷ (ys ++ x ∷ [])) first

  -- with no next item it is all
  pub prefix-all : (xs ys : List X) → take (length ys) xs ≡ ys → slice_get xs (length ys) ≡ None → ys ≡ xs
  prefix-all [] [] e h = refl
  prefix-all (y ∷ xs) [] e h = cc
  prefix-all [] (z ∷ ys) e h = cc
  prefix-all (y ∷ xs) (z ∷ ys) e h =
      let first : y ≡ z = head_is y z (take (length ys) xs) ys e in
      let rest : ys ≡ xs = prefix-all xs ys (tail_is y z (take (length ys) xs) ys e) h in
      ap (λ t. z ∷ t) rest ∙ ap (λ w. w ∷ xs) (sym first)

  -- a next item is one of the list
  pub prefix-short : (xs : List X) (n : ℕ) (x : X) → slice_get xs n ≡ Some x → n < length xs
  prefix-short [] n x h = cc
  prefix-short (y ∷ xs) zero x h = omega arith
  prefix-short (y ∷ xs) (suc n) x h = let below : n < length xs = prefix-short xs n x h in omega arith
