-- A walk over the items of a shelf, first to last.
use Rattle.std.proofs.Common.{◌≡◌, ℕ, suc, ◌+◌, ◌<◌, Bool, true, false, cond, not, List, [], ◌∷◌, ◌++◌, length, take, drop, slice_get, is_some, Some, None, refl, sym, ap, ◌∙◌, arith, filter, count_by}
use Rattle.std.proofs.lemmas.Bool.{cond-true, cond-false}
use Rattle.std.proofs.lemmas.List.{append_assoc}
use Rattle.bmx_shelves.proofs.Counts.{count_by-cons}

-- the first item and the rest
pub front_split : {X : Type 0} (left : List X) (item : X) → Some item ≡ slice_get left 0 → left ≡ item ∷ drop 1 left
front_split [] item e = cc
front_split (x ∷ left) item e = let is : item ≡ x = cc in ap (λ y. y ∷ left) (sym is)

pub front_none : {X : Type 0} (left : List X) → None ≡ slice_get left 0 → left ≡ []
front_none [] e = refl
front_none (x ∷ left) e = cc

pub none_left : {X : Type 0} (left : List X) → is_some (slice_get left 0) ≡ false → left ≡ []
none_left [] e = refl
none_left (x ∷ left) e = cc

module _ {X : Type 0} (ends : X → Bool) (left : List X) (item : X) (front : Some item ≡ slice_get left 0) where
  -- a item that goes
  pub kept_ended : (seen : List X) → ends item ≡ true → seen ++ filter (λ x. not (ends x)) (drop 1 left) ≡ seen ++ filter (λ x. not (ends x)) left
  kept_ended seen e =
      let rest = filter (λ x. not (ends x)) (drop 1 left) in
      ap (λ xs. seen ++ xs) (sym (ap (filter (λ x. not (ends x))) (front_split left item front) ∙ cond-false (not (ends item)) (item ∷ rest) rest (ap not e)))

  pub count_ended : ends item ≡ true → count_by ends left ≡ count_by ends (drop 1 left) + 1
  count_ended e =
      let both : count_by ends left ≡ cond (ends item) 1 0 + count_by ends (drop 1 left) = ap (count_by ends) (front_split left item front) ∙ count_by-cons ends item (drop 1 left) in
      let one : cond {A = ℕ} (ends item) 1 0 ≡ 1 = ap (λ b. cond {A = ℕ} b 1 0) e in
      omega (arith, both, one)

  -- a item that stays
  pub kept_stays : (seen : List X) → ends item ≡ false → (seen ++ take 1 left) ++ filter (λ x. not (ends x)) (drop 1 left) ≡ seen ++ filter (λ x. not (ends x)) left
  kept_stays seen e =
      let rest = filter (λ x. not (ends x)) (drop 1 left) in
      append_assoc seen (take 1 left) rest
      ∙ ap (λ xs. seen ++ (xs ++ rest)) (ap (take 1) (front_split left item front))
      ∙ ap (λ xs. seen ++ xs) (sym (ap (filter (λ x. not (ends x))) (front_split left item front) ∙ cond-true (not (ends item)) (item ∷ rest) rest (ap not e)))

  pub count_stays : ends item ≡ false → count_by ends left ≡ count_by ends (drop 1 left)
  count_stays e =
      let both : count_by ends left ≡ cond (ends item) 1 0 + count_by ends (drop 1 left) = ap (count_by ends) (front_split left item front) ∙ count_by-cons ends item (drop 1 left) in
      let none : cond {A = ℕ} (ends item) 1 0 ≡ 0 = ap (λ b. cond {A = ℕ} b 1 0) e in
      omega (arith, both, none)

  -- the walk comes to its end
  pub front_shorter : length (drop 1 left) < length left
  front_shorter = let long : length left ≡ suc (length (drop 1 left)) = ap length (front_split left item front) in omega arith

  pub front_some : 0 < length left
  front_some = let long : length left ≡ suc (length (drop 1 left)) = ap length (front_split left item front) in omega arith

  -- a item that goes back behind those before it
  pub back_again : (before : List X) → (before ++ take 1 left) ++ drop 1 left ≡ before ++ left
  back_again before =
      append_assoc before (take 1 left) (drop 1 left)
      ∙ ap (λ xs. before ++ (xs ++ drop 1 left)) (ap (take 1) (front_split left item front))
      ∙ ap (λ xs. before ++ xs) (sym (front_split left item front))
