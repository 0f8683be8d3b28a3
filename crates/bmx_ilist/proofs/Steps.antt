-- What each call makes of the links and the lists that they mean.
use Rattle.std.proofs.Common.{◌≡◌, ◌≢◌, ℕ, zero, suc, ◌<◌, Bool, true, false, ◌||◌, List, [], ◌∷◌, length, map, drop, get_or, set, replicate, Option, Some, None, is_some, refl, sym, ap, ◌∙◌, subst, arith, inl, inr}
use Rattle.std.specs.FinSet as set
use Rattle.std.proofs.lemmas.Bool.{cond-true, cond-false, cases_eq, or_cases, false_from_ne_true}
use Rattle.std.proofs.lemmas.List.{length-map, set-get_or}
use Rattle.slab.specs.Slab.{Slab, get, Updates}
use Rattle.bmx_ilist.specs.declared.seats.Seat.{Seat}
use Rattle.bmx_ilist.specs.declared.seats.Ends.{Ends}
use Rattle.bmx_ilist.specs.Sequences.{Sequences, keys_of, has_key, is_in_list, first_key, key_after, next_in, pushed, unlinked, popped, HasEachOnce, AreApart}
use Rattle.bmx_ilist.specs.Inside.Links.{seat_found, next_put, previous_put, ends_pushed, ends_unlinked, seat_in, ends_of, Means, next_of_seat, lists_in}
use Rattle.bmx_ilist.proofs.Keys.{clash, has_without_itself, first_taken, first_has, nothing_first}
use Rattle.bmx_ilist.proofs.Links.{lists_in-is, Means-same, Means-pushed, Means-unlinked, one_list, in_range, unlinked_at}
use Rattle.bmx_ilist.proofs.Live.{live_in, lives}

-- the lists that links show are those that they mean, so that they mean what they show
pub settled : (seats : Slab (Option Seat)) (ends : List Ends) (lists : List (List ℕ)) → Means (get seats) ends lists → Means (get seats) ends (lists_in seats ends)
settled seats ends lists m = subst (Means (get seats) ends) (sym (lists_in-is seats ends lists m)) m

-- a key in some list
or_true : (b : Bool) → (b || true) ≡ true
or_true true = refl
or_true false = refl

pub in_some : (lists : List (List ℕ)) (j k : ℕ) → has_key k (keys_of lists j) ≡ true → is_in_list lists k ≡ true
in_some [] j k h = h
in_some (xs ∷ rest) zero k h = ap (λ b. b || is_in_list rest k) h
in_some (xs ∷ rest) (suc j) k h = ap (λ b. has_key k xs || b) (in_some rest j k h) ∙ or_true (has_key k xs)

pub loose_each : (lists : List (List ℕ)) (k : ℕ) → is_in_list lists k ≡ false → (j : ℕ) → has_key k (keys_of lists j) ≡ false
loose_each lists k loose j = false_from_ne_true (has_key k (keys_of lists j)) (λ t. clash (is_in_list lists k) (in_some lists j k t) loose)

pub some_list : (lists : List (List ℕ)) (k : ℕ) → is_in_list lists k ≡ true → (j : ℕ) × (has_key k (keys_of lists j) ≡ true)
some_list [] k h = absurd (let e : false ≡ true = h in cc)
some_list (xs ∷ rest) k h =
    elim (or_cases (has_key k xs) (is_in_list rest k) h) [
      | inl here ↦ (0, here)
      | inr later ↦ let found = some_list rest k later in (suc found.0, found.1)
    ]

-- a key that was taken out is in no list
pub unlinked_loose : (k : ℕ) (lists : List (List ℕ)) → is_in_list (unlinked k lists) k ≡ false
unlinked_loose k [] = refl
unlinked_loose k (xs ∷ rest) = ap (λ b. b || is_in_list (unlinked k rest) k) (has_without_itself k xs) ∙ unlinked_loose k rest

module _ (found : ℕ → Option (Option Seat)) (ends : List Ends) (lists : List (List ℕ)) (m : Means found ends lists) where
  -- a key that is in no list has no seat
  pub loose_unseated : (k : ℕ) → is_in_list lists k ≡ false → (s : Seat) → found k ≡ Some (Some s) → ⊥
  loose_unseated k loose s e = clash (has_key k (keys_of lists s.list)) (m.listed k s e) (loose_each lists k loose s.list)

  -- a key with no seat is in no list
  pub unseated_loose : (k : ℕ) → seat_found (found k) ≡ None → (j : ℕ) → has_key k (keys_of lists j) ≡ false
  unseated_loose k none j =
      false_from_ne_true (has_key k (keys_of lists j)) (λ t.
      let e : None ≡ Some (seat_in j (keys_of lists j) k) = sym none ∙ ap seat_found (m.seated j k t) in
      absurd (cc))

  pub unseated_nowhere : (k : ℕ) → seat_found (found k) ≡ None → is_in_list lists k ≡ false
  unseated_nowhere k none =
      false_from_ne_true (is_in_list lists k) (λ t. let at = some_list lists k t in clash (has_key k (keys_of lists at.0)) at.1 (unseated_loose k none at.0))

  pub ends_long : length ends ≡ length lists
  ends_long = ap length m.ends_are ∙ length-map lists ends_of

next_at : (lists : List (List ℕ)) (j k : ℕ) → has_key k (keys_of lists j) ≡ true → ((i : ℕ) → i ≢ j → has_key k (keys_of lists i) ≡ false) → next_in lists k ≡ key_after k (keys_of lists j)
next_at [] j k h others = absurd (let e : false ≡ true = h in cc)
next_at (xs ∷ rest) zero k h others = cond-true (has_key k xs) (key_after k xs) (next_in rest k) h
next_at (xs ∷ rest) (suc j) k h others =
    cond-false (has_key k xs) (key_after k xs) (next_in rest k) (others 0 (λ e. absurd (omega arith)))
    ∙ next_at rest j k h (λ i ne. others (suc i) (λ e. ne (omega arith)))

next_nowhere : (lists : List (List ℕ)) (k : ℕ) → ((j : ℕ) → has_key k (keys_of lists j) ≡ false) → next_in lists k ≡ None
next_nowhere [] k none = refl
next_nowhere (xs ∷ rest) k none = cond-false (has_key k xs) (key_after k xs) (next_in rest k) (none 0) ∙ next_nowhere rest k (λ j. none (suc j))

pub found_seat : (o : Option (Option Seat)) (s : Seat) → seat_found o ≡ Some s → o ≡ Some (Some s)
found_seat None s e = absurd (cc)
found_seat (Some o) s e = ap Some e

-- what a seat says is next is next in the lists
pub next_is : (found : ℕ → Option (Option Seat)) (ends : List Ends) (lists : List (List ℕ)) → Means found ends lists → (k : ℕ) (s : Seat) → seat_found (found k) ≡ Some s → s.next ≡ next_in lists k
next_is found ends lists m k s e =
    let had : found k ≡ Some (Some s) = found_seat (found k) s e in
    let here = m.listed k s had in
    ap next_of_seat (sym had ∙ m.seated s.list k here)
    ∙ sym (next_at lists s.list k here (λ i ne. false_from_ne_true (has_key k (keys_of lists i)) (λ t. ne (one_list found ends lists m i s.list k t here))))

pub next_is_none : (found : ℕ → Option (Option Seat)) (ends : List Ends) (lists : List (List ℕ)) → Means found ends lists → (k : ℕ) → seat_found (found k) ≡ None → None ≡ next_in lists k
next_is_none found ends lists m k e = sym (next_nowhere lists k (unseated_loose found ends lists m k e))

-- the keys are apart
pub apart_in : (seats : Slab (Option Seat)) (ends : List Ends) (s : Sequences) → Means (get seats) ends (lists_in seats ends) → lists_in seats ends ≡ s.lists → live_in seats ≡ s.live → AreApart s
apart_in seats ends s m lists_are live_are =
    let n : Means (get seats) ends s.lists = subst (Means (get seats) ends) lists_are m in
    record {
      once = n.once;
      one_list = one_list (get seats) ends s.lists n;
      live = λ j k h. ap (λ l. set.contains l k) (sym live_are) ∙ lives seats k ∙ ap is_some (n.seated j k h);
    }

-- the list of a seat is one of those that have ends
pub seat_within : (seats : Slab (Option Seat)) (ends : List Ends) (lists : List (List ℕ)) (k : ℕ) (s : Seat) → Means (get seats) ends lists → seat_found (get seats k) ≡ Some s → s.list < length ends
seat_within seats ends lists k s m e =
    let within : s.list < length lists = in_range lists s.list k (m.listed k s (found_seat (get seats k) s e)) in
    let long : length ends ≡ length lists = ends_long (get seats) ends lists m in
    omega arith

-- one key changes, that has no seat before and after
pub Means-unseated : (old new : Slab (Option Seat)) (ends : List Ends) (lists : List (List ℕ)) (k : ℕ) (slot : Option (Option Seat)) → Means (get old) ends lists → ((s : Seat) → get old k ≡ Some (Some s) → ⊥) → ((s : Seat) → slot ≡ Some (Some s) → ⊥) → Updates old new k slot → Means (get new) ends lists
Means-unseated old new ends lists k slot m before after u =
    Means-same (get old) (get new) ends lists m
    (λ q s e. elim (cases_eq q k) [
      | inl w ↦ absurd (before s (ap (get old) (sym w) ∙ e))
      | inr ne ↦ u.others q ne ∙ e
    ])
    (λ q s e. elim (cases_eq q k) [
      | inl w ↦ absurd (after s (sym u.changed ∙ ap (get new) (sym w) ∙ e))
      | inr ne ↦ sym (u.others q ne) ∙ e
    ])

-- the ends of a list
pub ends_got : (lists : List (List ℕ)) (i : ℕ) (e : Ends) → i < length lists → get_or (map ends_of lists) i e ≡ ends_of (keys_of lists i)
ends_got [] i e within = absurd (omega arith)
ends_got (xs ∷ rest) zero e within = refl
ends_got (xs ∷ rest) (suc i) e within = let later : i < length rest = omega arith in ends_got rest i e later

pub ends_read : (found : ℕ → Option (Option Seat)) (ends : List Ends) (lists : List (List ℕ)) → Means found ends lists → (i : ℕ) (e : Ends) → i < length lists → e ≡ get_or ends i e → e ≡ ends_of (keys_of lists i)
ends_read found ends lists m i e within is = is ∙ ap (λ es. get_or es i e) m.ends_are ∙ ends_got lists i e within

pub pushed_step : (old mid new : Slab (Option Seat)) (ends : List Ends) (lists : List (List ℕ)) (i k : ℕ) (e : Ends) → Means (get old) ends lists → i < length lists → is_in_list lists k ≡ false → e ≡ get_or ends i e → get mid k ≡ Some (Some (record { list = i; previous = e.last; next = None })) → ((q : ℕ) → q ≢ k → get mid q ≡ get old q) → ((q : ℕ) → get new q ≡ next_put e.last (Some k) q (get mid q)) → Means (get new) (set ends i (ends_pushed k e)) (pushed i k lists)
pushed_step old mid new ends lists i k e m within loose is put others linked =
    Means-pushed (get old) (get mid) (get new) ends lists i k e m within (loose_each lists k loose) (ends_read (get old) ends lists m i e within is) put others linked

pub unlinked_step : (old one two new : Slab (Option Seat)) (ends : List Ends) (lists : List (List ℕ)) (k : ℕ) (s : Seat) (e : Ends) → Means (get old) ends lists → seat_found (get old k) ≡ Some s → e ≡ get_or ends s.list e → ((q : ℕ) → get one q ≡ next_put s.previous s.next q (get old q)) → ((q : ℕ) → get two q ≡ previous_put s.next s.previous q (get one q)) → get new k ≡ Some None → ((q : ℕ) → q ≢ k → get new q ≡ get two q) → Means (get new) (set ends s.list (ends_unlinked s.previous s.next e)) (unlinked k lists)
unlinked_step old one two new ends lists k s e m seat is first second changed others =
    let had : get old k ≡ Some (Some s) = found_seat (get old k) s seat in
    Means-unlinked (get old) (get new) ends lists k s e m had
    (ends_read (get old) ends lists m s.list e (in_range lists s.list k (m.listed k s had)) is)
    changed
    (λ q ne. others q ne ∙ second q ∙ ap (previous_put s.next s.previous q) (first q))

-- a list without its first key
pub popped_is : (s : Sequences) (i k : ℕ) → AreApart s → first_key (keys_of s.lists i) ≡ Some k → unlinked k s.lists ≡ popped i s.lists
popped_is s i k apart first =
    let here = first_has k (keys_of s.lists i) first in
    unlinked_at k s.lists i (λ j ne. false_from_ne_true (has_key k (keys_of s.lists j)) (λ t. ne (apart.one_list j i k t here)))
    ∙ ap (set s.lists i) (first_taken k (keys_of s.lists i) (apart.once i) first)

pub popped_none : (lists : List (List ℕ)) (i : ℕ) → first_key (keys_of lists i) ≡ None → lists ≡ popped i lists
popped_none lists i none =
    let empty : keys_of lists i ≡ [] = nothing_first (keys_of lists i) none in
    sym (ap (λ xs. set lists i (drop 1 xs)) empty ∙ ap (set lists i) (sym empty) ∙ set-get_or lists i [])

-- no list has a key at first
none_at : (n j : ℕ) → keys_of (replicate n []) j ≡ []
none_at zero j = refl
none_at (suc n) zero = refl
none_at (suc n) (suc j) = none_at n j

ends_none : (n : ℕ) (e : Ends) → e ≡ ends_of [] → replicate n e ≡ map ends_of (replicate n [])
ends_none zero e is = refl
ends_none (suc n) e is = ap (λ x. x ∷ replicate n e) is ∙ ap (λ l. ends_of [] ∷ l) (ends_none n e is)

pub new_step : (seats : Slab (Option Seat)) (ends : List Ends) (n : ℕ) (e : Ends) → seats.slots ≡ [] → e ≡ ends_of [] → ends ≡ replicate n e → Means (get seats) ends (replicate n [])
new_step seats ends n e empty blank all =
    let nothing : (k : ℕ) → get seats k ≡ None = λ k. ap (λ (slots : List (Option (Option Seat))). get_or slots k None) empty in
    record {
      ends_are = all ∙ ends_none n e blank;
      seated = λ j k h. clash (has_key k (keys_of (replicate n []) j)) h (ap (has_key k) (none_at n j));
      listed = λ k s is. absurd (let both : None ≡ Some (Some s) = sym (nothing k) ∙ is in cc);
      once = λ j. subst HasEachOnce (sym (none_at n j)) tt;
    }
