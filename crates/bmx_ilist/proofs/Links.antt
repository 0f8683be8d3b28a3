-- The links mean the lists: what each change of links makes of them, and that walking them gives them.
use Rattle.std.proofs.Common.{◌≡◌, ◌≢◌, ℕ, zero, suc, ◌<◌, ◌≤◌, Bool, true, false, cond, ◌||◌, ◌==◌, List, [], ◌∷◌, ◌++◌, length, reverse, map, set, Option, Some, None, IsSome, refl, sym, ap, ◌∙◌, subst, arith, inl, inr}
use Rattle.std.proofs.lemmas.Bool.{cond-false, cases_eq, eq-eqb, ne_eqb, false_from_ne_true}
use Rattle.std.proofs.lemmas.List.{get_or-set_same, get_or-set_other, map-set}
use Rattle.slab.specs.Slab.{Slab, get}
use Rattle.slab.proofs.SlabLemmas.{ContainsKey-within}
use Rattle.bmx_ilist.specs.declared.seats.Seat.{Seat}
use Rattle.bmx_ilist.specs.declared.seats.Ends.{Ends}
use Rattle.bmx_ilist.specs.Sequences.{keys_of, has_key, first_key, key_after, without, pushed, unlinked, HasEachOnce}
use Rattle.bmx_ilist.specs.Inside.Links.{key_before, last_key, first_unlinked, is_at, with_next, with_previous, next_put, previous_put, ends_pushed, ends_unlinked, seat_in, ends_of, Means, next_of_seat, walk, lists_in}
use Rattle.bmx_ilist.proofs.Keys.{clash, same, apart, has_key-push, has_key-reverse, first_has, after_has, key_after-first, key_after-rest, key_after-pushed, key_after-push, after_pushed, before_pushed, before_push_other, first_key-push, last_pushed, HasEachOnce-push, HasEachOnce-without, has_without_other, has_without_itself, without_none, first_without, last_without, after_without, before_without, length_below, is_at-some}

-- walking from the first key by the links gives the keys
pub walk_is : (found : ℕ → Option (Option Seat)) (n : ℕ) (xs : List ℕ) → HasEachOnce xs → ((y : ℕ) → has_key y xs ≡ true → next_of_seat (found y) ≡ key_after y xs) → length xs ≤ n → walk found n (first_key xs) ≡ xs
walk_is found zero [] once links long = refl
walk_is found zero (x ∷ xs) once links long = absurd (omega arith)
walk_is found (suc n) [] once links long = refl
walk_is found (suc n) (x ∷ xs) once links long =
    let first : next_of_seat (found x) ≡ first_key xs = links x (ap (λ b. b || has_key x xs) (same x)) ∙ key_after-first x xs in
    let or_true : (b : Bool) → (b || true) ≡ true = λ b. elim b as (λ v. (v || true) ≡ true) [ true ↦ refl | false ↦ refl ] in
    let short : length xs ≤ n = omega arith in
    ap (λ o. x ∷ walk found n o) first
    ∙ ap (λ l. x ∷ l) (walk_is found n xs once.1 (λ y h. links y (ap (λ b. x == y || b) h ∙ or_true (x == y)) ∙ key_after-rest x y xs (λ e. apart y x xs h once.0 (sym e))) short)

-- a list that has a key is one of them
pub in_range : (lists : List (List ℕ)) (i k : ℕ) → has_key k (keys_of lists i) ≡ true → i < length lists
in_range [] i k h = absurd (let e : false ≡ true = h in cc)
in_range (xs ∷ rest) zero k h = omega arith
in_range (xs ∷ rest) (suc i) k h = let later : i < length rest = in_range rest i k h in omega arith

-- a key is in one list
pub one_list : (found : ℕ → Option (Option Seat)) (ends : List Ends) (lists : List (List ℕ)) → Means found ends lists → (i j k : ℕ) → has_key k (keys_of lists i) ≡ true → has_key k (keys_of lists j) ≡ true → i ≡ j
one_list found ends lists m i j k hi hj =
    let both : Some (Some (seat_in i (keys_of lists i) k)) ≡ Some (Some (seat_in j (keys_of lists j) k)) = sym (m.seated i k hi) ∙ m.seated j k hj in
    let list_of : Option (Option Seat) → ℕ = λ o. elim o as (λ _. ℕ) [ None ↦ 0 | Some p ↦ elim p as (λ _. ℕ) [ None ↦ 0 | Some s ↦ s.list ] ] in
    ap list_of both

each_walk : (found : ℕ → Option (Option Seat)) (n : ℕ) (lists : List (List ℕ)) → ((i : ℕ) → walk found n (first_key (keys_of lists i)) ≡ keys_of lists i) → map (λ (e : Ends). walk found n e.first) (map ends_of lists) ≡ lists
each_walk found n [] each = refl
each_walk found n (xs ∷ rest) each = ap (λ l. l ∷ map (λ (e : Ends). walk found n e.first) (map ends_of rest)) (each 0) ∙ ap (λ l. xs ∷ l) (each_walk found n rest (λ i. each (suc i)))

-- so the lists that links show are those that they mean
pub lists_in-is : (seats : Slab (Option Seat)) (ends : List Ends) (lists : List (List ℕ)) → Means (get seats) ends lists → lists_in seats ends ≡ lists
lists_in-is seats ends lists m =
    ap (λ es. map (λ (e : Ends). walk (get seats) (length seats.slots) e.first) es) m.ends_are
    ∙ each_walk (get seats) (length seats.slots) lists (λ i.
    walk_is (get seats) (length seats.slots) (keys_of lists i) (m.once i)
    (λ y h. ap next_of_seat (m.seated i y h))
    (length_below (length seats.slots) (keys_of lists i) (m.once i) (λ q h. within q (m.seated i q h))))
  where
    within : (q : ℕ) {s : Seat} → get seats q ≡ Some (Some s) → q < length seats.slots
    within q e = ContainsKey-within seats q (subst IsSome (sym e) refl)

-- what is found changes nothing of it where each seat stays
pub Means-same : (found after : ℕ → Option (Option Seat)) (ends : List Ends) (lists : List (List ℕ)) → Means found ends lists → ((q : ℕ) (s : Seat) → found q ≡ Some (Some s) → after q ≡ Some (Some s)) → ((q : ℕ) (s : Seat) → after q ≡ Some (Some s) → found q ≡ Some (Some s)) → Means after ends lists
Means-same found after ends lists m keeps back =
    record {
      ends_are = m.ends_are;
      seated = λ i k h. keeps k _ (m.seated i k h);
      listed = λ k s e. m.listed k s (back k s e);
      once = m.once;
    }

next_put-seated : (b : Bool) (next : Option ℕ) (s : Seat) → cond b (with_next next (Some (Some s))) (Some (Some s)) ≡ Some (Some (record s { next = cond b next s.next }))
next_put-seated true next s = refl
next_put-seated false next s = refl

previous_put-seated : (b : Bool) (previous : Option ℕ) (s : Seat) → cond b (with_previous previous (Some (Some s))) (Some (Some s)) ≡ Some (Some (record s { previous = cond b previous s.previous }))
previous_put-seated true previous s = refl
previous_put-seated false previous s = refl

-- a set link leaves the list
next_put-back : (b : Bool) (next : Option ℕ) (o : Option (Option Seat)) (s : Seat) → cond b (with_next next o) o ≡ Some (Some s) → (t : Seat) × (o ≡ Some (Some t)) × (t.list ≡ s.list)
next_put-back true next None s e = absurd (cc)
next_put-back true next (Some None) s e = absurd (cc)
next_put-back true next (Some (Some t)) s e = (t, refl, ap list_in e)
  where
    list_in : Option (Option Seat) → ℕ
    list_in None = 0
    list_in (Some None) = 0
    list_in (Some (Some s)) = s.list
next_put-back false next o s e = (s, e, refl)

previous_put-back : (b : Bool) (previous : Option ℕ) (o : Option (Option Seat)) (s : Seat) → cond b (with_previous previous o) o ≡ Some (Some s) → (t : Seat) × (o ≡ Some (Some t)) × (t.list ≡ s.list)
previous_put-back true previous None s e = absurd (cc)
previous_put-back true previous (Some None) s e = absurd (cc)
previous_put-back true previous (Some (Some t)) s e = (t, refl, ap list_in e)
  where
    list_in : Option (Option Seat) → ℕ
    list_in None = 0
    list_in (Some None) = 0
    list_in (Some (Some s)) = s.list
previous_put-back false previous o s e = (s, e, refl)

abbrev seated_at : ℕ → Option ℕ → Option ℕ → Option (Option Seat)
seated_at i p n = Some (Some (record { list = i; previous = p; next = n }))

seats_same : (i : ℕ) (p q n m : Option ℕ) → p ≡ q → n ≡ m → seated_at i p n ≡ seated_at i q m
seats_same i p q n m e f = ap (λ x. seated_at i x n) e ∙ ap (λ x. seated_at i q x) f

abbrev ends_at : Option ℕ → Option ℕ → Ends
ends_at p n = record { first = p; last = n }

ends_same : (p q n m : Option ℕ) → p ≡ q → n ≡ m → ends_at p n ≡ ends_at q m
ends_same p q n m e f = ap (λ x. ends_at x n) e ∙ ap (λ x. ends_at q x) f

-- a key that is pushed
module _ (found mid after : ℕ → Option (Option Seat)) (ends : List Ends) (lists : List (List ℕ)) (i k : ℕ) (e : Ends) (m : Means found ends lists) (within : i < length lists) (loose : (j : ℕ) → has_key k (keys_of lists j) ≡ false) (e_is : e ≡ ends_of (keys_of lists i)) (put : mid k ≡ Some (Some (record { list = i; previous = e.last; next = None }))) (others : (q : ℕ) → q ≢ k → mid q ≡ found q) (linked : (q : ℕ) → after q ≡ next_put e.last (Some k) q (mid q)) where
  pushed_last : e.last ≡ last_key (keys_of lists i)
  pushed_last = ap (λ (x : Ends). x.last) e_is

  pushed_at : keys_of (pushed i k lists) i ≡ keys_of lists i ++ k ∷ []
  pushed_at = get_or-set_same lists i (keys_of lists i ++ k ∷ []) [] within

  pushed_else : (j : ℕ) → j ≢ i → keys_of (pushed i k lists) j ≡ keys_of lists j
  pushed_else j ne = get_or-set_other lists i j (keys_of lists i ++ k ∷ []) [] ne

  last_in : (x : ℕ) → is_at e.last x ≡ true → has_key x (keys_of lists i) ≡ true
  last_in x t = sym (has_key-reverse x (keys_of lists i)) ∙ first_has x (reverse (keys_of lists i)) (sym pushed_last ∙ is_at-some e.last x t)

  pushed_itself : after k ≡ Some (Some (seat_in i (keys_of lists i ++ k ∷ []) k))
  pushed_itself =
      let not_last : is_at e.last k ≡ false = false_from_ne_true (is_at e.last k) (λ t. clash (has_key k (keys_of lists i)) (last_in k t) (loose i)) in
      linked k ∙ cond-false (is_at e.last k) (with_next (Some k) (mid k)) (mid k) not_last ∙ put
      ∙ seats_same i _ _ _ _ (pushed_last ∙ sym (before_pushed k (keys_of lists i))) (sym (key_after-pushed k (keys_of lists i) (loose i)))

  pushed_other : (x : ℕ) → x ≢ k → has_key x (keys_of lists i) ≡ true → after x ≡ Some (Some (seat_in i (keys_of lists i ++ k ∷ []) x))
  pushed_other x ne h =
      let xs = keys_of lists i in
      linked x ∙ ap (λ o. next_put e.last (Some k) x o) (others x ne ∙ m.seated i x h)
      ∙ next_put-seated (is_at e.last x) (Some k) (seat_in i xs x)
      ∙ seats_same i _ _ _ _ (sym (before_push_other x k xs (λ s. ne (sym s))))
      (ap (λ o. cond (is_at o x) (Some k) (key_after x xs)) pushed_last ∙ sym (after_pushed x k xs (m.once i) h) ∙ sym (key_after-push x k xs h))

  pushed_else_kept : (j x : ℕ) → j ≢ i → has_key x (keys_of lists j) ≡ true → after x ≡ Some (Some (seat_in j (keys_of lists j) x))
  pushed_else_kept j x ne h =
      let differs : x ≢ k = λ s. clash (has_key x (keys_of lists j)) h (ap (λ z. has_key z (keys_of lists j)) s ∙ loose j) in
      let not_last : is_at e.last x ≡ false = false_from_ne_true (is_at e.last x) (λ t. ne (one_list found ends lists m j i x h (last_in x t))) in
      linked x ∙ cond-false (is_at e.last x) (with_next (Some k) (mid x)) (mid x) not_last ∙ others x differs ∙ m.seated j x h

  rest_of_pushed : (x : ℕ) → x ≢ k → has_key x (keys_of lists i ++ k ∷ []) ≡ true → has_key x (keys_of lists i) ≡ true
  rest_of_pushed x ne h =
      let or_false : (b : Bool) → (b || false) ≡ b = λ b. elim b as (λ v. (v || false) ≡ v) [ true ↦ refl | false ↦ refl ] in
      sym (has_key-push x k (keys_of lists i) ∙ ap (λ b. has_key x (keys_of lists i) || b) (ne_eqb k x (λ s. ne (sym s))) ∙ or_false (has_key x (keys_of lists i))) ∙ h

  pushed_here : (x : ℕ) → has_key x (keys_of lists i ++ k ∷ []) ≡ true → after x ≡ Some (Some (seat_in i (keys_of lists i ++ k ∷ []) x))
  pushed_here x h =
      elim (cases_eq x k) [
        | inl s ↦ let P : ℕ → Type 0 = λ z. after z ≡ Some (Some (seat_in i (keys_of lists i ++ k ∷ []) z)) in subst P (sym s) pushed_itself
        | inr ne ↦ pushed_other x ne (rest_of_pushed x ne h)
      ]

  pushed_seated : (j x : ℕ) → has_key x (keys_of (pushed i k lists) j) ≡ true → after x ≡ Some (Some (seat_in j (keys_of (pushed i k lists) j) x))
  pushed_seated j x h =
      elim (cases_eq j i) [
        | inl s ↦
            let J : ℕ → Type 0 = λ z. has_key x (keys_of (pushed i k lists) z) ≡ true → after x ≡ Some (Some (seat_in z (keys_of (pushed i k lists) z) x)) in
            let L : List ℕ → Type 0 = λ ys. has_key x ys ≡ true → after x ≡ Some (Some (seat_in i ys x)) in
            subst J (sym s) (subst L (sym pushed_at) (pushed_here x)) h
        | inr ne ↦
            let L : List ℕ → Type 0 = λ ys. has_key x ys ≡ true → after x ≡ Some (Some (seat_in j ys x)) in
            subst L (sym (pushed_else j ne)) (pushed_else_kept j x ne) h
      ]

  pushed_keeps : (j x : ℕ) → has_key x (keys_of lists j) ≡ true → has_key x (keys_of (pushed i k lists) j) ≡ true
  pushed_keeps j x h =
      elim (cases_eq j i) [
        | inl s ↦
            let J : ℕ → Type 0 = λ z. has_key x (keys_of lists z) ≡ true → has_key x (keys_of (pushed i k lists) z) ≡ true in
            subst J (sym s) (λ g. ap (has_key x) pushed_at ∙ has_key-push x k (keys_of lists i) ∙ ap (λ b. b || k == x) g) h
        | inr ne ↦ ap (has_key x) (pushed_else j ne) ∙ h
      ]

  abbrev list_seen : Option (Option Seat) → ℕ
  list_seen None = 0
  list_seen (Some None) = 0
  list_seen (Some (Some s)) = s.list

  pushed_listed : (x : ℕ) (s : Seat) → after x ≡ Some (Some s) → has_key x (keys_of (pushed i k lists) s.list) ≡ true
  pushed_listed x s is =
      elim (cases_eq x k) [
        | inl w ↦
            let list_is : i ≡ s.list = ap list_seen (sym pushed_itself ∙ ap after (sym w) ∙ is) in
            let J : ℕ → Type 0 = λ z. has_key x (keys_of (pushed i k lists) z) ≡ true in
            let or_true : (b : Bool) → (b || true) ≡ true = λ b. elim b as (λ v. (v || true) ≡ true) [ true ↦ refl | false ↦ refl ] in
            subst J list_is (ap (has_key x) pushed_at ∙ has_key-push x k (keys_of lists i) ∙ ap (λ b. has_key x (keys_of lists i) || b) (eq-eqb k x (sym w)) ∙ or_true (has_key x (keys_of lists i)))
        | inr ne ↦
            let was = next_put-back (is_at e.last x) (Some k) (mid x) s (sym (linked x) ∙ is) in
            let J : ℕ → Type 0 = λ z. has_key x (keys_of (pushed i k lists) z) ≡ true in
            subst J was.2 (pushed_keeps was.0.list x (m.listed x was.0 (sym (others x ne) ∙ was.1)))
      ]

  pushed_once : (j : ℕ) → HasEachOnce (keys_of (pushed i k lists) j)
  pushed_once j =
      elim (cases_eq j i) [
        | inl s ↦
            let J : ℕ → Type 0 = λ z. HasEachOnce (keys_of (pushed i k lists) z) in
            subst J (sym s) (subst HasEachOnce (sym pushed_at) (HasEachOnce-push (keys_of lists i) k (m.once i) (loose i)))
        | inr ne ↦ subst HasEachOnce (sym (pushed_else j ne)) (m.once j)
      ]

  pub Means-pushed : Means after (set ends i (ends_pushed k e)) (pushed i k lists)
  Means-pushed =
      record {
        ends_are =
            ap (λ es. set es i (ends_pushed k e)) m.ends_are
            ∙ ap (λ x. set (map ends_of lists) i x) (ap (ends_pushed k) e_is ∙ ends_same _ _ _ _ (sym (first_key-push (keys_of lists i) k)) (sym (last_pushed k (keys_of lists i))))
            ∙ sym (map-set ends_of lists i (keys_of lists i ++ k ∷ []));
        seated = pushed_seated;
        listed = pushed_listed;
        once = pushed_once;
      }

-- where no other list has a key, it is taken out of one
unlinked_none : (k : ℕ) (lists : List (List ℕ)) → ((j : ℕ) → has_key k (keys_of lists j) ≡ false) → unlinked k lists ≡ lists
unlinked_none k [] none = refl
unlinked_none k (xs ∷ rest) none = ap (λ l. l ∷ unlinked k rest) (without_none k xs (none 0)) ∙ ap (λ l. xs ∷ l) (unlinked_none k rest (λ j. none (suc j)))

pub unlinked_at : (k : ℕ) (lists : List (List ℕ)) (i : ℕ) → ((j : ℕ) → j ≢ i → has_key k (keys_of lists j) ≡ false) → unlinked k lists ≡ set lists i (without k (keys_of lists i))
unlinked_at k [] i none = refl
unlinked_at k (xs ∷ rest) zero none = ap (λ l. without k xs ∷ l) (unlinked_none k rest (λ j. none (suc j) (λ e. absurd (omega arith))))
unlinked_at k (xs ∷ rest) (suc i) none =
    ap (λ l. l ∷ unlinked k rest) (without_none k xs (none 0 (λ e. absurd (omega arith))))
    ∙ ap (λ l. xs ∷ l) (unlinked_at k rest i (λ j ne. none (suc j) (λ e. ne (omega arith))))

-- a key that is in its list and is taken out
module _ (found after : ℕ → Option (Option Seat)) (ends : List Ends) (lists : List (List ℕ)) (k : ℕ) (s : Seat) (e : Ends) (m : Means found ends lists) (had : found k ≡ Some (Some s)) (e_is : e ≡ ends_of (keys_of lists s.list)) (changed : after k ≡ Some None) (others : (q : ℕ) → q ≢ k → after q ≡ previous_put s.next s.previous q (next_put s.previous s.next q (found q))) where
  out_has : has_key k (keys_of lists s.list) ≡ true
  out_has = m.listed k s had

  out_seat : Some (Some s) ≡ Some (Some (seat_in s.list (keys_of lists s.list) k))
  out_seat = sym had ∙ m.seated s.list k out_has

  abbrev previous_seen : Option (Option Seat) → Option ℕ
  previous_seen None = None
  previous_seen (Some None) = None
  previous_seen (Some (Some t)) = t.previous

  out_previous : s.previous ≡ key_before k (keys_of lists s.list)
  out_previous = ap previous_seen out_seat

  out_next : s.next ≡ key_after k (keys_of lists s.list)
  out_next = ap next_of_seat out_seat

  pub out_within : s.list < length lists
  out_within = in_range lists s.list k out_has

  abbrev out_lists : List (List ℕ)
  out_lists = set lists s.list (without k (keys_of lists s.list))

  out_at : keys_of out_lists s.list ≡ without k (keys_of lists s.list)
  out_at = get_or-set_same lists s.list (without k (keys_of lists s.list)) [] out_within

  out_else : (j : ℕ) → j ≢ s.list → keys_of out_lists j ≡ keys_of lists j
  out_else j ne = get_or-set_other lists s.list j (without k (keys_of lists s.list)) [] ne

  previous_in : (x : ℕ) → is_at s.previous x ≡ true → has_key x (keys_of lists s.list) ≡ true
  previous_in x t = sym (has_key-reverse x (keys_of lists s.list)) ∙ after_has k x (reverse (keys_of lists s.list)) (sym out_previous ∙ is_at-some s.previous x t)

  next_in_list : (x : ℕ) → is_at s.next x ≡ true → has_key x (keys_of lists s.list) ≡ true
  next_in_list x t = after_has k x (keys_of lists s.list) (sym out_next ∙ is_at-some s.next x t)

  -- what another key of that list then has
  out_other : (x : ℕ) → x ≢ k → has_key x (keys_of lists s.list) ≡ true → after x ≡ Some (Some (seat_in s.list (without k (keys_of lists s.list)) x))
  out_other x ne h =
      let xs = keys_of lists s.list in
      others x ne
      ∙ ap (λ o. previous_put s.next s.previous x (next_put s.previous s.next x o)) (m.seated s.list x h)
      ∙ ap (λ o. previous_put s.next s.previous x o) (next_put-seated (is_at s.previous x) s.next (seat_in s.list xs x))
      ∙ previous_put-seated (is_at s.next x) s.previous (record { list = s.list; previous = key_before x xs; next = cond (is_at s.previous x) s.next (key_after x xs) })
      ∙ seats_same s.list _ _ _ _
      (ap (λ o. cond (is_at o x) s.previous (key_before x xs)) out_next ∙ ap (λ o. cond (is_at (key_after k xs) x) o (key_before x xs)) out_previous ∙ sym (before_without x k xs (m.once s.list) h out_has ne))
      (ap (λ o. cond (is_at o x) s.next (key_after x xs)) out_previous ∙ ap (λ o. cond (is_at (key_before k xs) x) o (key_after x xs)) out_next ∙ sym (after_without x k xs (m.once s.list) h out_has ne))

  out_here : (x : ℕ) → has_key x (without k (keys_of lists s.list)) ≡ true → after x ≡ Some (Some (seat_in s.list (without k (keys_of lists s.list)) x))
  out_here x h =
      let xs = keys_of lists s.list in
      let ne : x ≢ k = λ w. clash (has_key x (without k xs)) h (ap (λ z. has_key z (without k xs)) w ∙ has_without_itself k xs) in
      out_other x ne (sym (has_without_other x k xs ne) ∙ h)

  -- and what a key of another list has
  out_else_kept : (j x : ℕ) → j ≢ s.list → has_key x (keys_of lists j) ≡ true → after x ≡ Some (Some (seat_in j (keys_of lists j) x))
  out_else_kept j x ne h =
      let differs : x ≢ k = λ w. ne (one_list found ends lists m j s.list x h (ap (λ z. has_key z (keys_of lists s.list)) w ∙ out_has)) in
      let not_previous : is_at s.previous x ≡ false = false_from_ne_true (is_at s.previous x) (λ t. ne (one_list found ends lists m j s.list x h (previous_in x t))) in
      let not_next : is_at s.next x ≡ false = false_from_ne_true (is_at s.next x) (λ t. ne (one_list found ends lists m j s.list x h (next_in_list x t))) in
      let mid : Option (Option Seat) = next_put s.previous s.next x (found x) in
      others x differs
      ∙ cond-false (is_at s.next x) (with_previous s.previous mid) mid not_next
      ∙ cond-false (is_at s.previous x) (with_next s.next (found x)) (found x) not_previous
      ∙ m.seated j x h

  out_seated : (j x : ℕ) → has_key x (keys_of out_lists j) ≡ true → after x ≡ Some (Some (seat_in j (keys_of out_lists j) x))
  out_seated j x h =
      elim (cases_eq j s.list) [
        | inl w ↦
            let J : ℕ → Type 0 = λ z. has_key x (keys_of out_lists z) ≡ true → after x ≡ Some (Some (seat_in z (keys_of out_lists z) x)) in
            let L : List ℕ → Type 0 = λ ys. has_key x ys ≡ true → after x ≡ Some (Some (seat_in s.list ys x)) in
            subst J (sym w) (subst L (sym out_at) (out_here x)) h
        | inr ne ↦
            let L : List ℕ → Type 0 = λ ys. has_key x ys ≡ true → after x ≡ Some (Some (seat_in j ys x)) in
            subst L (sym (out_else j ne)) (out_else_kept j x ne) h
      ]

  out_keeps : (j x : ℕ) → x ≢ k → has_key x (keys_of lists j) ≡ true → has_key x (keys_of out_lists j) ≡ true
  out_keeps j x differs h =
      elim (cases_eq j s.list) [
        | inl w ↦
            let J : ℕ → Type 0 = λ z. has_key x (keys_of lists z) ≡ true → has_key x (keys_of out_lists z) ≡ true in
            subst J (sym w) (λ g. ap (has_key x) out_at ∙ has_without_other x k (keys_of lists s.list) differs ∙ g) h
        | inr ne ↦ ap (has_key x) (out_else j ne) ∙ h
      ]

  out_listed : (x : ℕ) (t : Seat) → after x ≡ Some (Some t) → has_key x (keys_of out_lists t.list) ≡ true
  out_listed x t is =
      elim (cases_eq x k) [
        | inl w ↦ let both : Some None ≡ Some (Some t) = sym changed ∙ ap after (sym w) ∙ is in absurd (cc)
        | inr ne ↦
            let mid : Option (Option Seat) = next_put s.previous s.next x (found x) in
            let was = previous_put-back (is_at s.next x) s.previous mid t (sym (others x ne) ∙ is) in
            let first = next_put-back (is_at s.previous x) s.next (found x) was.0 was.1 in
            let J : ℕ → Type 0 = λ z. has_key x (keys_of out_lists z) ≡ true in
            subst J (first.2 ∙ was.2) (out_keeps first.0.list x ne (m.listed x first.0 first.1))
      ]

  out_once : (j : ℕ) → HasEachOnce (keys_of out_lists j)
  out_once j =
      elim (cases_eq j s.list) [
        | inl w ↦
            let J : ℕ → Type 0 = λ z. HasEachOnce (keys_of out_lists z) in
            subst J (sym w) (subst HasEachOnce (sym out_at) (HasEachOnce-without k (keys_of lists s.list) (m.once s.list)))
        | inr ne ↦ subst HasEachOnce (sym (out_else j ne)) (m.once j)
      ]

  out_ends : ends_unlinked s.previous s.next e ≡ ends_of (without k (keys_of lists s.list))
  out_ends =
      let xs = keys_of lists s.list in
      ap (ends_unlinked s.previous s.next) e_is
      ∙ ends_same _ _ _ _
      (ap (λ o. first_unlinked o s.next (first_key xs)) out_previous ∙ ap (λ o. first_unlinked (key_before k xs) o (first_key xs)) out_next ∙ sym (first_without k xs (m.once s.list) out_has))
      (ap (λ o. first_unlinked o s.previous (last_key xs)) out_next ∙ ap (λ o. first_unlinked (key_after k xs) o (last_key xs)) out_previous ∙ sym (last_without k xs (m.once s.list) out_has))

  -- only its own list has the key
  out_unlinked : unlinked k lists ≡ out_lists
  out_unlinked = unlinked_at k lists s.list (λ j ne. false_from_ne_true (has_key k (keys_of lists j)) (λ t. ne (one_list found ends lists m j s.list k t out_has)))

  pub Means-unlinked : Means after (set ends s.list (ends_unlinked s.previous s.next e)) (unlinked k lists)
  Means-unlinked =
      subst (Means after (set ends s.list (ends_unlinked s.previous s.next e))) (sym out_unlinked)
      (record {
        ends_are =
            ap (λ es. set es s.list (ends_unlinked s.previous s.next e)) m.ends_are
            ∙ ap (λ x. set (map ends_of lists) s.list x) out_ends
            ∙ sym (map-set ends_of lists s.list (without k (keys_of lists s.list)));
        seated = out_seated;
        listed = out_listed;
        once = out_once;
      })
