-- How many stand before a pair, in one list and in all, and the one before which just so many do.
use Rattle.std.proofs.Common.{◌≡◌, ℕ, zero, suc, ◌+◌, ◌<◌, ◌≤◌, Bool, true, false, cond, ◌&&◌, ◌||◌, ◌==◌, nat_le, nat_lt, List, [], ◌∷◌, length, get_or, take, Some, None, slice_get, refl, sym, ap, ◌∙◌, subst, arith, filter, find, All, count_by, ⊎_elim}
use Rattle.std.proofs.lemmas.Bool.{cond_both, cases_Bool, cases_eq, cases_lt, eq-eqb, eqb-true}
use Rattle.std.proofs.lemmas.Bool.Decides.{nat_tests}
use Rattle.std.specs.List.Sorted.{IsPartitionPoint, IsPartitionedBy}
use Rattle.std.proofs.lemmas.List.{length-take-le}
use Rattle.std.proofs.lemmas.List.Elements.{filter_agree, All-head, All-tail, All-filter}
use Rattle.std.proofs.lemmas.List.Sums.{length-filter, sum_by-cons}
use Rattle.std.proofs.lemmas.Option.{slice_get-get_or, slice_get_cases}
use Rattle.bmx_types.specs.declared.names.Pair.{Pair}
use Rattle.bmx_shelves.proofs.Parts.{find_at, find_none, AllPairs-tail, AllPairs-head}
use Rattle.bmx_shelves.proofs.Counts.{count_by-cons, count_by-filter}
use Rattle.bmx_inter.specs.Order.{is_ahead, IsInOrder}
use Rattle.bmx_inter.specs.Inside.Sides.{Sided, AreParts, count_ahead, rank_of}
use Rattle.bmx_inter.proofs.Keys.{is_ahead-trans, is_behind-ahead, is_ahead-of, is_same-itself}
use Rattle.bmx_inter.proofs.Merged.{clash, none, every, into, out, none_between, one_more_between, not_both, is_between}

-- ## Counts

one_of : (s t f : Bool) → (s ≡ true → t ≡ false) → cond (s && f) 1 0 + cond (t && f) 1 0 ≡ cond ((s || t) && f) 1 0
one_of true true f h = let bad : true ≡ false = h refl in cc
one_of true false true h = refl
one_of true false false h = refl
one_of false true true h = refl
one_of false true false h = refl
one_of false false f h = refl

at_most : (a b : Bool) → (a ≡ true → b ≡ true) → cond a 1 0 ≤ cond b 1 0
at_most true true h = omega arith
at_most true false h = let bad : false ≡ true = h refl in cc
at_most false true h = omega arith
at_most false false h = omega arith

module _ {X : Type 0} where
  count-none : (f : X → Bool) (xs : List X) → All (λ x. f x ≡ false) xs → count_by f xs ≡ 0
  count-none f xs h = sym (length-filter f xs) ∙ ap length (none f xs h)

  -- in two parts that have none in common
  count-both : (f s t : X → Bool) → ((x : X) → s x ≡ true → t x ≡ false) → (xs : List X) → count_by (λ x. s x && f x) xs + count_by (λ x. t x && f x) xs ≡ count_by (λ x. (s x || t x) && f x) xs
  count-both f s t apart [] = refl
  count-both f s t apart (x ∷ xs) =
      let a = count_by-cons (λ x. s x && f x) x xs in
      let b = count_by-cons (λ x. t x && f x) x xs in
      let e = count_by-cons (λ x. (s x || t x) && f x) x xs in
      let here = one_of (s x) (t x) (f x) (apart x) in
      let rest = count-both f s t apart xs in
      omega (arith, a, b, e, here, rest)

  count-parts : (f s t : X → Bool) → ((x : X) → s x ≡ true → t x ≡ false) → (xs : List X) → count_by f (filter s xs) + count_by f (filter t xs) ≡ count_by f (filter (λ x. s x || t x) xs)
  count-parts f s t apart xs =
      let a = count_by-filter f s xs in
      let b = count_by-filter f t xs in
      let e = count_by-filter f (λ x. s x || t x) xs in
      let both = count-both f s t apart xs in
      omega (arith, a, b, e, both)

  count-more : (f h : X → Bool) → ((x : X) → f x ≡ true → h x ≡ true) → (xs : List X) → count_by f xs ≤ count_by h xs
  count-more f h more [] = omega arith
  count-more f h more (x ∷ xs) =
      let a = count_by-cons f x xs in
      let b = count_by-cons h x xs in
      let here = at_most (f x) (h x) (more x) in
      let rest = count-more f h more xs in
      omega (arith, a, b, here, rest)

  -- what is found has what all have
  find-holds : (P : X → Type 0) (p : X → Bool) (xs : List X) (x : X) → find p xs ≡ Some x → All P xs → (p x ≡ true) × (P x)
  find-holds P p [] x e h = cc
  find-holds P p (y ∷ xs) x e h =
      cond_both (p y) (Some y) (find p xs) (λ o. o ≡ Some x → (p x ≡ true) × (P x))
      (λ passes same. let is : y ≡ x = cc in subst (λ z. (p z ≡ true) × (P z)) is (passes, All-head P y xs h))
      (λ _ rest. find-holds P p xs x rest (All-tail P y xs h)) e

  -- what is of a part where none is found doesn't pass
  find-none_passes : (p t : X → Bool) (xs : List X) → find p (filter t xs) ≡ None → (k : ℕ) (d : X) → k < length xs → t (get_or xs k d) ≡ true → p (get_or xs k d) ≡ false
  find-none_passes p t [] e k d lt h = absurd (omega arith)
  find-none_passes p t (x ∷ xs) e k d lt h =
      ⊎_elim
      (λ (in_t : t x ≡ true).
      cond_both (p x) (Some x) (find p (filter t xs)) (λ o. o ≡ None → p (get_or (x ∷ xs) k d) ≡ false)
      (λ _ bad. cc)
      (λ fails rest. at x xs p t k d lt h fails (λ j lt' h'. find-none_passes p t xs rest j d lt' h'))
      (sym (ap (find p) (into t x xs in_t)) ∙ e))
      (λ (no_t : t x ≡ false). after x xs p t k d lt h no_t (λ j lt' h'. find-none_passes p t xs (sym (ap (find p) (out t x xs no_t)) ∙ e) j d lt' h'))
      (cases_Bool (t x))
    where
      at : (x : X) (xs : List X) (p t : X → Bool) (k : ℕ) (d : X) → k < length (x ∷ xs) → t (get_or (x ∷ xs) k d) ≡ true → p x ≡ false → ((j : ℕ) → j < length xs → t (get_or xs j d) ≡ true → p (get_or xs j d) ≡ false) → p (get_or (x ∷ xs) k d) ≡ false
      at x xs p t zero d lt h fails rest = fails
      at x xs p t (suc j) d lt h fails rest = rest j (omega arith) h

      after : (x : X) (xs : List X) (p t : X → Bool) (k : ℕ) (d : X) → k < length (x ∷ xs) → t (get_or (x ∷ xs) k d) ≡ true → t x ≡ false → ((j : ℕ) → j < length xs → t (get_or xs j d) ≡ true → p (get_or xs j d) ≡ false) → p (get_or (x ∷ xs) k d) ≡ false
      after x xs p t zero d lt h fails rest = absurd (clash h fails)
      after x xs p t (suc j) d lt h fails rest = rest j (omega arith) h

module _ {X : Type 0} (pair_of : X → Pair) where
  -- where a search ends is how many stand before
  pub ahead-count : (xs : List X) (p : Pair) (i : ℕ) → i ≤ length xs → take i xs ≡ filter (λ x. is_ahead (pair_of x) p) xs → i ≡ count_ahead pair_of p xs
  ahead-count xs p i le ahead = sym (length-take-le i xs le) ∙ ap length ahead ∙ length-filter (λ x. is_ahead (pair_of x) p) xs

  -- before each of a list in order stand as many as its place says
  count-at : (xs : List X) → IsInOrder pair_of xs → (k : ℕ) (d : X) → k < length xs → count_ahead pair_of (pair_of (get_or xs k d)) xs ≡ k
  count-at [] order k d lt = absurd (omega arith)
  count-at (x ∷ xs) order zero d lt =
      let behind : All (λ y. is_ahead (pair_of x) (pair_of y) ≡ true) xs = AllPairs-head (λ y z. is_ahead (pair_of y) (pair_of z) ≡ true) x xs order in
      let f : X → Bool = λ y. is_ahead (pair_of y) (pair_of x) in
      count_by-cons f x xs
      ∙ (λ i. cond (is_ahead-of (pair_of x) (pair_of x) (is_same-itself (pair_of x)) i) 1 0 + count-none f xs (λ k e l. is_behind-ahead (pair_of x) (pair_of (get_or xs k e)) (behind k e l)) i)
  count-at (x ∷ xs) order (suc k) d lt =
      let behind : All (λ y. is_ahead (pair_of x) (pair_of y) ≡ true) xs = AllPairs-head (λ y z. is_ahead (pair_of y) (pair_of z) ≡ true) x xs order in
      let y = get_or xs k d in
      let short : k < length xs = omega arith in
      let f : X → Bool = λ z. is_ahead (pair_of z) (pair_of y) in
      let cons = count_by-cons f x xs in
      let one : ◌≡◌ {A = ℕ} (cond (f x) 1 0) 1 = ap (λ b. cond b 1 0) (behind k d short) in
      let rest = count-at xs (AllPairs-tail (λ y z. is_ahead (pair_of y) (pair_of z) ≡ true) x xs order) k d short in
      omega (arith, cons, one, rest)

  -- more stand before what stands later
  pub rank-more : (all : List (Sided X)) (p q : Pair) → is_ahead p q ≡ true → rank_of pair_of p all ≤ rank_of pair_of q all
  rank-more [] p q h = omega arith
  rank-more (s ∷ all) p q h =
      let a = sum_by-cons (λ (s : Sided X). count_ahead pair_of p s.list) s all in
      let b = sum_by-cons (λ (s : Sided X). count_ahead pair_of q s.list) s all in
      let here = count-more (λ x. is_ahead (pair_of x) p) (λ x. is_ahead (pair_of x) q) (λ x k. is_ahead-trans (pair_of x) p q k h) s.list in
      let rest = rank-more all p q h in
      omega (arith, a, b, here, rest)

  module _ (bunch_of : X → ℕ) where
    rank-from : (p : Pair) (c n : ℕ) (all : List (Sided X)) (list : List X) → n ≡ c + length all → ((b : ℕ) (d : Sided X) → b < length all → (get_or all b d).list ≡ filter (λ x. bunch_of x == c + b) list) → rank_of pair_of p all ≡ count_ahead pair_of p (filter (λ x. nat_le c (bunch_of x) && nat_lt (bunch_of x) n) list)
    rank-from p c n [] list e parts = sym (ap (count_ahead pair_of p) (none (λ x. nat_le c (bunch_of x) && nat_lt (bunch_of x) n) list (λ k d lt. none_between c n (bunch_of (get_or list k d)) e)))
    rank-from p c n (s ∷ all) list e parts =
        let f : X → Bool = λ x. is_ahead (pair_of x) p in
        let here : s.list ≡ filter (λ x. bunch_of x == c) list = parts 0 s (omega arith) ∙ ap (λ m. filter (λ x. bunch_of x == m) list) (omega arith) in
        let rest : rank_of pair_of p all ≡ count_ahead pair_of p (filter (λ x. nat_le (suc c) (bunch_of x) && nat_lt (bunch_of x) n) list) =
        rank-from p (suc c) n all list (omega (arith, e)) (λ b d lt. parts (suc b) d (omega (arith, lt)) ∙ ap (λ m. filter (λ x. bunch_of x == m) list) (omega arith)) in
        sum_by-cons (λ (s : Sided X). count_ahead pair_of p s.list) s all
        ∙ (λ i. count_by f (here i) + rest i)
        ∙ count-parts f (λ x. bunch_of x == c) (λ x. nat_le (suc c) (bunch_of x) && nat_lt (bunch_of x) n) (λ x h. not_both c n (bunch_of x) h) list
        ∙ ap (count_by f) (filter_agree (λ x. (bunch_of x == c) || (nat_le (suc c) (bunch_of x) && nat_lt (bunch_of x) n)) (λ x. nat_le c (bunch_of x) && nat_lt (bunch_of x) n) (λ x. one_more_between c n (length all) (bunch_of x) e) list)

    -- as many stand before a pair in all lists as in the one
    rank-whole : (p : Pair) (all : List (Sided X)) (list : List X) → AreParts pair_of bunch_of all list → All (λ x. bunch_of x < length all) list → rank_of pair_of p all ≡ count_ahead pair_of p list
    rank-whole p all list parts bounded =
        rank-from p 0 (length all) all list (omega arith) (λ b d lt. parts b d lt ∙ ap (λ m. filter (λ x. bunch_of x == m) list) (omega arith))
        ∙ ap (count_ahead pair_of p) (every (λ x. nat_le 0 (bunch_of x) && nat_lt (bunch_of x) (length all)) list (λ k d lt. is_between (length all) (bunch_of (get_or list k d)) (bounded k d lt)))

    -- ## The one of a rank

    module _ (all : List (Sided X)) (list : List X) (order : IsInOrder pair_of list) (parts : AreParts pair_of bunch_of all list) (bounded : All (λ x. bunch_of x < length all) list) (i : ℕ) where
      rank-at : (k : ℕ) (d : X) → k < length list → rank_of pair_of (pair_of (get_or list k d)) all ≡ k
      rank-at k d lt = rank-whole (pair_of (get_or list k d)) all list parts bounded ∙ count-at list order k d lt

      -- where one list has it, it is the i-th
      pub ranked-found : (b : ℕ) (d : Sided X) (x : X) → b < length all → find (λ y. rank_of pair_of (pair_of y) all == i) (get_or all b d).list ≡ Some x → slice_get list i ≡ Some x
      ranked-found b d x lt found =
          let IsIt : X → Type 0 = λ y. (rank_of pair_of (pair_of y) all == i) ≡ true → slice_get list i ≡ Some y in
          let each : All IsIt list = λ k e within h.
          let same : k ≡ i = sym (rank-at k e within) ∙ eqb-true (rank_of pair_of (pair_of (get_or list k e)) all) i h in
          subst (λ m. slice_get list m ≡ Some (get_or list k e)) same (slice_get-get_or list k e within) in
          let holds = find-holds IsIt (λ y. rank_of pair_of (pair_of y) all == i) (filter (λ y. bunch_of y == b) list) x
          (sym (ap (find (λ y. rank_of pair_of (pair_of y) all == i)) (parts b d lt)) ∙ found)
          (All-filter (λ y. bunch_of y == b) IsIt list each) in
          holds.1 holds.0

      -- where none has it there is none
      pub ranked-missed : All (λ s. find (λ y. rank_of pair_of (pair_of y) all == i) s.list ≡ None) all → slice_get list i ≡ None
      ranked-missed missed =
          ⊎_elim
          (λ (h : (x : X) × (i < length list) × (slice_get list i ≡ Some x) × (get_or list i x ≡ x)).
          let x = h.0 in
          let y = get_or list i x in
          let within : i < length list = h.1 in
          let b = bunch_of y in
          let none_d : Sided X = record { list = []; spare = 0 } in
          let lt : b < length all = bounded i x within in
          let is_none_here = sym (ap (find (λ y. rank_of pair_of (pair_of y) all == i)) (parts b none_d lt)) ∙ missed b none_d lt in
          absurd (clash (eq-eqb (rank_of pair_of (pair_of y) all) i (rank-at i x within))
          (find-none_passes (λ y. rank_of pair_of (pair_of y) all == i) (λ z. bunch_of z == b) list is_none_here i x within (eq-eqb b b refl))))
          (λ (h : (length list ≤ i) × (slice_get list i ≡ None)). h.1)
          (slice_get_cases list i).1

  -- ## A search for it in one list

  -- what is before it stands in front
  pub rank-partitioned : (all : List (Sided X)) (xs : List X) (i : ℕ) → IsInOrder pair_of xs → IsPartitionedBy (λ x. nat_lt (rank_of pair_of (pair_of x) all) i) xs
  rank-partitioned all xs i order k j d le within h =
      ⊎_elim
      (λ same. subst (λ m. nat_lt (rank_of pair_of (pair_of (get_or xs m d)) all) i ≡ true) (sym same) h)
      (λ apart. below (rank_of pair_of (pair_of (get_or xs k d)) all) (rank_of pair_of (pair_of (get_or xs j d)) all) i (rank-more all (pair_of (get_or xs k d)) (pair_of (get_or xs j d)) (order k j d (omega arith) within)) h)
      (cases_eq k j)
    where
      below : (a b i : ℕ) → a ≤ b → nat_lt b i ≡ true → nat_lt a i ≡ true
      below a b i le h = grind (arith, nat_tests)

  below-not : (a i : ℕ) → nat_lt a i ≡ true → (a == i) ≡ false
  below-not a i h = grind (arith, nat_tests)

  above-not : (a b i : ℕ) → nat_lt a i ≡ false → (a == i) ≡ false → a ≤ b → (b == i) ≡ false
  above-not a b i h k le = grind (arith, nat_tests)

  pub ranked-at : (all : List (Sided X)) (xs : List X) (i j : ℕ) (x : X) → IsPartitionPoint (λ y. nat_lt (rank_of pair_of (pair_of y) all) i ≡ true) (λ y. nat_lt (rank_of pair_of (pair_of y) all) i ≡ false) xs j → j < length xs → x ≡ get_or xs j x → (rank_of pair_of (pair_of x) all == i) ≡ true → find (λ y. rank_of pair_of (pair_of y) all == i) xs ≡ Some x
  ranked-at all xs i j x point within read here =
      find_at (λ y. rank_of pair_of (pair_of y) all == i) xs j x within
      (λ k e low high. below-not (rank_of pair_of (pair_of (get_or xs k e)) all) i (point.0 k e low high))
      (subst (λ y. (rank_of pair_of (pair_of y) all == i) ≡ true) read here)
      ∙ ap (λ y. Some y) (sym read)

  pub ranked-not_at : (all : List (Sided X)) (xs : List X) (i j : ℕ) → IsInOrder pair_of xs → IsPartitionPoint (λ y. nat_lt (rank_of pair_of (pair_of y) all) i ≡ true) (λ y. nat_lt (rank_of pair_of (pair_of y) all) i ≡ false) xs j → ((d : X) → j < length xs → (rank_of pair_of (pair_of (get_or xs j d)) all == i) ≡ false) → find (λ y. rank_of pair_of (pair_of y) all == i) xs ≡ None
  ranked-not_at all xs i j order point not_here =
      let rank : X → ℕ = λ y. rank_of pair_of (pair_of y) all in
      find_none (λ y. rank_of pair_of (pair_of y) all == i) xs (λ k e low high. ⊎_elim
      (λ front. below-not (rank_of pair_of (pair_of (get_or xs k e)) all) i (point.0 k e low front))
      (λ back. ⊎_elim
      (λ same. subst (λ m. (rank_of pair_of (pair_of (get_or xs m e)) all == i) ≡ false) (sym same) (not_here e (omega arith)))
      (λ apart. above-not (rank_of pair_of (pair_of (get_or xs j e)) all) (rank_of pair_of (pair_of (get_or xs k e)) all) i (point.1 j e (omega arith) (omega arith)) (not_here e (omega arith)) (rank-more all (pair_of (get_or xs j e)) (pair_of (get_or xs k e)) (order j k e (omega arith) high)))
      (cases_eq k j))
      (cases_lt k j))
