-- The items of keys, and of the shelf of a number.
use Rattle.std.proofs.Common.{◌≡◌, ℕ, zero, suc, ◌<◌, ◌≤◌, true, ◌==◌, List, [], ◌∷◌, ◌++◌, length, map, drop, Option, Some, None, refl, ap, ◌∙◌, arith}
use Rattle.std.proofs.lemmas.Bool.{or_left, or_right, eq-eqb}
use Rattle.std.proofs.lemmas.List.{length-map, length-take-le}
use Rattle.bmx_ilist.specs.Sequences.{keys_of, has_key, first_key}
use Rattle.bmx_shelves.specs.Shelves.{on_shelf}
use Rattle.bmx_shelves.specs.Inside.Keyed.{with_first, items_of, shelves_in}

module _ {T : Type 0} where
  -- keys that have the same have the same items
  pub items_of-same : (f g : ℕ → Option (Option T)) (ks : List ℕ) → ((q : ℕ) → has_key q ks ≡ true → f q ≡ g q) → items_of f ks ≡ items_of g ks
  items_of-same f g [] same = refl
  items_of-same f g (k ∷ ks) same =
      ap (λ o. with_first o (items_of f ks)) (same k (or_left (k == k) (has_key k ks) (eq-eqb k k refl)))
      ∙ ap (with_first (g k)) (items_of-same f g ks (λ q h. same q (or_right (k == q) (has_key q ks) h)))

  with_first-append : (o : Option (Option T)) (xs ys : List T) → with_first o (xs ++ ys) ≡ with_first o xs ++ ys
  with_first-append None xs ys = refl
  with_first-append (Some None) xs ys = refl
  with_first-append (Some (Some x)) xs ys = refl

  -- with one more key
  pub items_of-push : (f : ℕ → Option (Option T)) (ks : List ℕ) (k : ℕ) → items_of f (ks ++ k ∷ []) ≡ items_of f ks ++ with_first (f k) []
  items_of-push f [] k = refl
  items_of-push f (q ∷ ks) k =
      ap (with_first (f q)) (items_of-push f ks k) ∙ with_first-append (f q) (items_of f ks) (with_first (f k) [])

  -- the first key's item is the first
  pub items_of-first : (f : ℕ → Option (Option T)) (ks : List ℕ) (k : ℕ) (x : T) → first_key ks ≡ Some k → f k ≡ Some (Some x) → items_of f ks ≡ x ∷ items_of f (drop 1 ks)
  items_of-first f [] k x first has = absurd (cc)
  items_of-first f (q ∷ ks) k x first has =
      let is : q ≡ k = cc in
      ap (λ o. with_first o (items_of f ks)) (ap f is ∙ has)

  -- keys with no item have none
  pub items_of-none : (f : ℕ → Option (Option T)) (ks : List ℕ) → ((q : ℕ) → has_key q ks ≡ true → f q ≡ Some None) → items_of f ks ≡ []
  items_of-none f [] none = refl
  items_of-none f (k ∷ ks) none =
      ap (λ o. with_first o (items_of f ks)) (none k (or_left (k == k) (has_key k ks) (eq-eqb k k refl)))
      ∙ items_of-none f ks (λ q h. none q (or_right (k == q) (has_key q ks) h))

  -- a shelf has the items of its keys
  pub on_shelf-in : (f : ℕ → Option (Option T)) (lists : List (List ℕ)) (n m : ℕ) → m < n → on_shelf (shelves_in f lists n) m ≡ items_of f (keys_of lists m)
  on_shelf-in f lists zero m lt = absurd (omega arith)
  on_shelf-in f [] (suc n) zero lt = refl
  on_shelf-in f [] (suc n) (suc m) lt = refl
  on_shelf-in f (ks ∷ lists) (suc n) zero lt = refl
  on_shelf-in f (ks ∷ lists) (suc n) (suc m) lt = on_shelf-in f lists n m (omega arith)

  -- behind the last there is none
  pub on_shelf-past : (f : ℕ → Option (Option T)) (lists : List (List ℕ)) (n m : ℕ) → n ≤ m → on_shelf (shelves_in f lists n) m ≡ []
  on_shelf-past f lists zero m le = refl
  on_shelf-past f [] (suc n) m le = refl
  on_shelf-past f (ks ∷ lists) (suc n) zero le = absurd (omega arith)
  on_shelf-past f (ks ∷ lists) (suc n) (suc m) le = on_shelf-past f lists n m (omega arith)

  pub length-shelves_in : (f : ℕ → Option (Option T)) (lists : List (List ℕ)) (n : ℕ) → n ≤ length lists → length (shelves_in f lists n) ≡ n
  length-shelves_in f lists n le =
      let long : length (map (items_of f) lists) ≡ length lists = length-map lists (items_of f) in
      length-take-le n (map (items_of f) lists) (omega arith)
