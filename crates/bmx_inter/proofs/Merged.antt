-- The lists of the bunches in one: what it is, and what a change of one list makes of it.
use Rattle.std.proofs.Common.{◌≡◌, ℕ, suc, ◌+◌, ◌<◌, ◌≤◌, Bool, true, false, cond, ◌&&◌, ◌||◌, ◌==◌, nat_le, nat_lt, List, [], ◌∷◌, ◌++◌, length, get_or, refl, sym, ap, ◌∙◌, subst, arith, filter, All, ◌⊎◌, ⊎_elim}
use Rattle.std.proofs.lemmas.Bool.{cond-true, cond-false, cases_Bool}
use Rattle.std.proofs.lemmas.Bool.Decides.{nat_tests}
use Rattle.std.proofs.lemmas.List.Elements.{filter_agree, All-head, All-tail, All-filter}
use Rattle.bmx_types.specs.declared.names.Pair.{Pair}
use Rattle.bmx_shelves.proofs.Parts.{filter_none, filter_all, AllPairs-tail, AllPairs-head}
use Rattle.bmx_inter.specs.Order.{is_ahead, IsInOrder, with_one}
use Rattle.bmx_inter.specs.Inside.Sides.{Sided, overlay, merged, AreParts, Kept}
use Rattle.bmx_inter.proofs.Keys.{is_behind-ahead}
use Rattle.bmx_inter.proofs.Found.{IsInOrder-with_one}

pub clash : {b : Bool} → b ≡ true → b ≡ false → ⊥
clash t f = let e : true ≡ false = sym t ∙ f in cc

-- ## Filters

swapped : (a b : Bool) → (a && b) ≡ (b && a)
swapped true true = refl
swapped true false = refl
swapped false true = refl
swapped false false = refl

module _ {X : Type 0} where
  pub into : (p : X → Bool) (x : X) (xs : List X) → p x ≡ true → filter p (x ∷ xs) ≡ x ∷ filter p xs
  into p x xs h = cond-true (p x) (x ∷ filter p xs) (filter p xs) h

  pub out : (p : X → Bool) (x : X) (xs : List X) → p x ≡ false → filter p (x ∷ xs) ≡ filter p xs
  out p x xs h = cond-false (p x) (x ∷ filter p xs) (filter p xs) h

  pub none : (p : X → Bool) (xs : List X) → All (λ x. p x ≡ false) xs → filter p xs ≡ []
  none p xs h = filter_none p xs (λ k d low high. h k d high)

  pub every : (p : X → Bool) (xs : List X) → All (λ x. p x ≡ true) xs → filter p xs ≡ xs
  every p xs h = filter_all p xs (λ k d low high. h k d high)

  -- two filters are one
  pub filter-twice : (p q : X → Bool) (xs : List X) → filter p (filter q xs) ≡ filter (λ x. q x && p x) xs
  filter-twice p q [] = refl
  filter-twice p q (x ∷ xs) =
      ⊎_elim
      (λ (t : q x ≡ true). ap (filter p) (into q x xs t) ∙ (λ i. cond (p x) (x ∷ filter-twice p q xs i) (filter-twice p q xs i)) ∙ sym (ap (λ b. cond (b && p x) (x ∷ filter (λ x. q x && p x) xs) (filter (λ x. q x && p x) xs)) t))
      (λ (f : q x ≡ false). ap (filter p) (out q x xs f) ∙ filter-twice p q xs ∙ sym (ap (λ b. cond (b && p x) (x ∷ filter (λ x. q x && p x) xs) (filter (λ x. q x && p x) xs)) f))
      (cases_Bool (q x))

  pub filters-agree : (p q r s : X → Bool) → ((x : X) → (q x && p x) ≡ (s x && r x)) → (xs : List X) → filter p (filter q xs) ≡ filter r (filter s xs)
  filters-agree p q r s h xs = filter-twice p q xs ∙ filter_agree (λ x. q x && p x) (λ x. s x && r x) h xs ∙ sym (filter-twice r s xs)

  pub filter-swap : (p q : X → Bool) (xs : List X) → filter p (filter q xs) ≡ filter q (filter p xs)
  filter-swap p q xs = filters-agree p q q p (λ x. swapped (q x) (p x)) xs

-- ## The lists in one

pub none_between : (c n b : ℕ) → n ≡ c + 0 → (nat_le c b && nat_lt b n) ≡ false
none_between c n b e = grind (arith, nat_tests)

pub one_more_between : (c n k b : ℕ) → n ≡ c + suc k → ((b == c) || (nat_le (suc c) b && nat_lt b n)) ≡ (nat_le c b && nat_lt b n)
one_more_between c n k b e = grind (arith, nat_tests)

pub not_both : (c n b : ℕ) → (b == c) ≡ true → (nat_le (suc c) b && nat_lt b n) ≡ false
not_both c n b h = grind (arith, nat_tests)

pub is_between : (n b : ℕ) → b < n → (nat_le 0 b && nat_lt b n) ≡ true
is_between n b h = grind (arith, nat_tests)

module _ {X : Type 0} (pair_of : X → Pair) where
  overlay-order : (xs ys : List X) → IsInOrder pair_of ys → IsInOrder pair_of (overlay pair_of xs ys)
  overlay-order [] ys h = h
  overlay-order (x ∷ xs) ys h = IsInOrder-with_one pair_of x (overlay pair_of xs ys) (overlay-order xs ys h)

  -- it is in order
  pub merged-order : (all : List (Sided X)) → IsInOrder pair_of (merged pair_of all)
  merged-order [] = λ i j d lt within. absurd (omega arith)
  merged-order (s ∷ all) = overlay-order s.list (merged pair_of all) (merged-order all)

  -- one before all others
  with_one-first : (x : X) (ys : List X) → All (λ y. is_ahead (pair_of x) (pair_of y) ≡ true) ys → with_one pair_of x ys ≡ x ∷ ys
  with_one-first x ys h =
      let front = none (λ y. is_ahead (pair_of y) (pair_of x)) ys (λ k d lt. is_behind-ahead (pair_of x) (pair_of (get_or ys k d)) (h k d lt)) in
      let back = every (λ y. is_ahead (pair_of x) (pair_of y)) ys h in
      λ i. front i ++ x ∷ back i

  -- one behind the first
  with_one-behind : (x y : X) (ys : List X) → is_ahead (pair_of x) (pair_of y) ≡ true → with_one pair_of y (x ∷ ys) ≡ x ∷ with_one pair_of y ys
  with_one-behind x y ys h =
      let front = into (λ z. is_ahead (pair_of z) (pair_of y)) x ys h in
      let back = out (λ z. is_ahead (pair_of y) (pair_of z)) x ys (is_behind-ahead (pair_of x) (pair_of y) h) in
      λ i. front i ++ y ∷ back i

  overlay-behind : (x : X) (ys zs : List X) → All (λ y. is_ahead (pair_of x) (pair_of y) ≡ true) ys → overlay pair_of ys (x ∷ zs) ≡ x ∷ overlay pair_of ys zs
  overlay-behind x [] zs h = refl
  overlay-behind x (y ∷ ys) zs h =
      ap (with_one pair_of y) (overlay-behind x ys zs (All-tail (λ y. is_ahead (pair_of x) (pair_of y) ≡ true) y ys h))
      ∙ with_one-behind x y (overlay pair_of ys zs) (All-head (λ y. is_ahead (pair_of x) (pair_of y) ≡ true) y ys h)

  -- two parts of a list are one part
  overlay-parts : (s t : X → Bool) → ((x : X) → s x ≡ true → t x ≡ false) → (xs : List X) → IsInOrder pair_of xs → overlay pair_of (filter s xs) (filter t xs) ≡ filter (λ x. s x || t x) xs
  overlay-parts s t apart [] order = refl
  overlay-parts s t apart (x ∷ xs) order =
      let u : X → Bool = λ x. s x || t x in
      let behind : All (λ y. is_ahead (pair_of x) (pair_of y) ≡ true) xs = AllPairs-head (λ y z. is_ahead (pair_of y) (pair_of z) ≡ true) x xs order in
      let rest : overlay pair_of (filter s xs) (filter t xs) ≡ filter u xs = overlay-parts s t apart xs (AllPairs-tail (λ y z. is_ahead (pair_of y) (pair_of z) ≡ true) x xs order) in
      ⊎_elim
      (λ (in_s : s x ≡ true).
      (λ i. overlay pair_of (into s x xs in_s i) (out t x xs (apart x in_s) i))
      ∙ ap (with_one pair_of x) rest
      ∙ with_one-first x (filter u xs) (All-filter u (λ y. is_ahead (pair_of x) (pair_of y) ≡ true) xs behind)
      ∙ sym (into u x xs (ap (λ b. b || t x) in_s)))
      (λ (no_s : s x ≡ false). ⊎_elim
      (λ (in_t : t x ≡ true).
      (λ i. overlay pair_of (out s x xs no_s i) (into t x xs in_t i))
      ∙ overlay-behind x (filter s xs) (filter t xs) (All-filter s (λ y. is_ahead (pair_of x) (pair_of y) ≡ true) xs behind)
      ∙ ap (λ ys. x ∷ ys) rest
      ∙ sym (into u x xs (ap (λ b. b || t x) no_s ∙ in_t)))
      (λ (no_t : t x ≡ false).
      (λ i. overlay pair_of (out s x xs no_s i) (out t x xs no_t i))
      ∙ rest
      ∙ sym (out u x xs (ap (λ b. b || t x) no_s ∙ no_t)))
      (cases_Bool (t x)))
      (cases_Bool (s x))

  module _ (bunch_of : X → ℕ) where
    -- the lists from one bunch on are what is of these bunches
    merged-from : (c n : ℕ) (all : List (Sided X)) (list : List X) → IsInOrder pair_of list → n ≡ c + length all → ((b : ℕ) (d : Sided X) → b < length all → (get_or all b d).list ≡ filter (λ x. bunch_of x == c + b) list) → merged pair_of all ≡ filter (λ x. nat_le c (bunch_of x) && nat_lt (bunch_of x) n) list
    merged-from c n [] list order e parts = sym (none (λ x. nat_le c (bunch_of x) && nat_lt (bunch_of x) n) list (λ k d lt. none_between c n (bunch_of (get_or list k d)) e))
    merged-from c n (s ∷ all) list order e parts =
        let here : s.list ≡ filter (λ x. bunch_of x == c) list = parts 0 s (omega arith) ∙ ap (λ m. filter (λ x. bunch_of x == m) list) (omega arith) in
        let rest : merged pair_of all ≡ filter (λ x. nat_le (suc c) (bunch_of x) && nat_lt (bunch_of x) n) list =
        merged-from (suc c) n all list order (omega (arith, e)) (λ b d lt. parts (suc b) d (omega (arith, lt)) ∙ ap (λ m. filter (λ x. bunch_of x == m) list) (omega arith)) in
        (λ i. overlay pair_of (here i) (rest i))
        ∙ overlay-parts (λ x. bunch_of x == c) (λ x. nat_le (suc c) (bunch_of x) && nat_lt (bunch_of x) n) (λ x h. not_both c n (bunch_of x) h) list order
        ∙ filter_agree (λ x. (bunch_of x == c) || (nat_le (suc c) (bunch_of x) && nat_lt (bunch_of x) n)) (λ x. nat_le c (bunch_of x) && nat_lt (bunch_of x) n) (λ x. one_more_between c n (length all) (bunch_of x) e) list

    -- a list is what its parts make
    pub merged-whole : (all : List (Sided X)) (list : List X) → IsInOrder pair_of list → AreParts pair_of bunch_of all list → All (λ x. bunch_of x < length all) list → merged pair_of all ≡ list
    merged-whole all list order parts bounded =
        merged-from 0 (length all) all list order (omega arith) (λ b d lt. parts b d lt ∙ ap (λ m. filter (λ x. bunch_of x == m) list) (omega arith))
        ∙ every (λ x. nat_le 0 (bunch_of x) && nat_lt (bunch_of x) (length all)) list (λ k d lt. is_between (length all) (bunch_of (get_or list k d)) (bounded k d lt))

    -- so what the lists keep can be said of that list
    pub Kept-of : (all : List (Sided X)) (room : ℕ) (list : List X) → IsInOrder pair_of list → ((length all ≡ 16) ⊎ ((length all ≡ 0) × (room ≡ 0))) → AreParts pair_of bunch_of all list → All (λ x. bunch_of x < length all) list → All (λ s. room ≤ s.spare) all → Kept pair_of bunch_of all room
    Kept-of all room list order count parts bounded roomy =
        let e = sym (merged-whole all list order parts bounded) in
        record {
          count = count;
          parts = subst (AreParts pair_of bunch_of all) e parts;
          bounded = subst (All (λ x. bunch_of x < length all)) e bounded;
          roomy = roomy;
        }
