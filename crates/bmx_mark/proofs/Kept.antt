-- What a mark keeps inside, after each change of its map and its lists.
use Rattle.std.proofs.Common.{◌≡◌, ℕ, suc, ◌+◌, ◌-◌, ◌<◌, ◌≤◌, Bool, true, false, cond, not, ◌||◌, ◌==◌, List, [], ◌∷◌, ◌++◌, filter, take, drop, length, slice_get, get_or, Some, None, refl, sym, ap, ◌∙◌, subst, arith, length-append}
use Rattle.std.proofs.Math.Seq.{take-suc, drop-cons}
use Rattle.std.proofs.Math.ListN.{get_or-map}
use Rattle.std.proofs.lemmas.Bool.{eq-eqb, cond-false}
use Rattle.std.proofs.lemmas.List.{take-append-le, drop-append-le, take-append-drop}
use Rattle.std.proofs.lemmas.Option.{slice_get_within, get_or_from_slice_get}
use Rattle.bmx_ilist.specs.Sequences.{Sequences, keys_of, has_key, is_in_list, first_key, without, pushed, unlinked, HasEachOnce}
use Rattle.bmx_ilist.proofs.Keys.{has_key-append, HasEachOnce-push, without_none, same, eqb_swap}
use Rattle.bmx_ilist.proofs.Steps.{loose_each, in_some}
use Rattle.std.specs.FinSet as set
use Rattle.bmx_mark.specs.Marks.{Marking, names_in, keys_in, has_name, AreListed}
use Rattle.bmx_mark.specs.Inside.Marks.{IsMark}
use Rattle.bmx_mark.proofs.Named.{names-append, keys-append}
use Rattle.bmx_mark.proofs.Listed.{AreListed-added, AreListed-moved}

or_none : (a b : Bool) → a ≡ false → b ≡ false → (a || b) ≡ false
or_none a b ea eb = ap (λ x. x || b) ea ∙ eb

-- nothing is marked
pub IsMark-empty : (s : Sequences) (room spare : ℕ) → s.lists ≡ [] ∷ [] ∷ [] → AreListed s → spare ≤ s.spare → spare ≤ room → IsMark s [] room 0 spare
IsMark-empty s room spare lists listed k n = record { lists = lists; listed = listed; within = omega arith; names = tt; keys = tt; keys_room = k; names_room = n }

-- there is more room
pub IsMark-room : (s t : Sequences) (es : List (ℕ × ℕ)) (room more n spare new : ℕ) → IsMark s es room n spare → t.lists ≡ s.lists → t.live ≡ s.live → new ≤ t.spare → new ≤ more → IsMark t es more n new
IsMark-room s t es room more n spare new m same live k r = record { lists = same ∙ m.lists; listed = λ q there. ap (λ l. is_in_list l q) same ∙ m.listed q (ap (λ l. set.contains l q) (sym live) ∙ there); within = m.within; names = m.names; keys = m.keys; keys_room = k; names_room = r }

-- a new key is that of no name
fresh : (s : Sequences) (es : List (ℕ × ℕ)) (room n spare key : ℕ) → IsMark s es room n spare → is_in_list s.lists key ≡ false → has_key key (keys_in es) ≡ false
fresh s es room n spare key m loose =
    let there : is_in_list (keys_in (drop n es) ∷ keys_in (take n es) ∷ []) key ≡ false = ap (λ l. is_in_list l key) (sym m.lists) ∙ loose in
    let grey : has_key key (keys_in (drop n es)) ≡ false = loose_each (keys_in (drop n es) ∷ keys_in (take n es) ∷ []) key there 0 in
    let others : has_key key (keys_in (take n es)) ≡ false = loose_each (keys_in (drop n es) ∷ keys_in (take n es) ∷ []) key there 1 in
    ap (λ l. has_key key (keys_in l)) (sym (take-append-drop n es)) ∙ ap (has_key key) (keys-append (take n es) (drop n es))
    ∙ has_key-append key (keys_in (take n es)) (keys_in (drop n es)) ∙ or_none _ _ others grey

-- there are two lists
two : {s : Sequences} {es : List (ℕ × ℕ)} {room n spare : ℕ} → IsMark s es room n spare → 1 < length s.lists
two m = subst (λ (l : List (List ℕ)). 1 < length l) (sym m.lists) (omega arith)

-- one more name is grey
pub IsMark-greyed : (s t : Sequences) (es : List (ℕ × ℕ)) (room more n spare name key : ℕ) → IsMark s es room n spare
    → t.lists ≡ pushed 0 key s.lists → t.live ≡ set.insert s.live key → is_in_list s.lists key ≡ false → has_name (names_in es) name ≡ false
    → s.spare ≡ t.spare + 1 → room ≤ more + 1
    → IsMark t (es ++ (name, key) ∷ []) more n (spare - 1)
IsMark-greyed s t es room more n spare name key m lists live loose new k r =
    let e : ℕ × ℕ = (name, key) in
    record {
      lists =
          lists ∙ ap (pushed 0 key) m.lists
          ∙ ap (λ l. l ∷ keys_in (take n es) ∷ []) (sym (keys-append (drop n es) (e ∷ [])) ∙ ap keys_in (sym (drop-append-le n es (e ∷ []) m.within)))
          ∙ ap (λ l. keys_in (drop n (es ++ e ∷ [])) ∷ keys_in l ∷ []) (sym (take-append-le n es (e ∷ []) m.within));
      listed = AreListed-added s t 0 key m.listed (omega (arith, two m)) lists live;
      within = omega (arith, m.within, length-append es (e ∷ []));
      names = subst HasEachOnce (sym (names-append es (e ∷ []))) (HasEachOnce-push (names_in es) name m.names new);
      keys = subst HasEachOnce (sym (keys-append es (e ∷ []))) (HasEachOnce-push (keys_in es) key m.keys (fresh s es room n spare key m loose));
      keys_room = omega (arith, m.keys_room, k);
      names_room = omega (arith, m.names_room, r);
    }

-- what stands in the middle stands there alone
middle : (k : ℕ) (xs ys : List ℕ) → HasEachOnce (xs ++ k ∷ ys) → (has_key k xs ≡ false) × (has_key k ys ≡ false)
middle k [] ys h = (refl, h.0)
middle k (x ∷ xs) ys h =
    let rest = middle k xs ys h.1 in
    let apart : (has_key x xs || (k == x || has_key x ys)) ≡ false = sym (has_key-append x xs (k ∷ ys)) ∙ h.0 in
    (or_none (x == k) (has_key k xs) (eqb_swap x k ∙ right (has_key x xs) (k == x) (has_key x ys) apart) rest.0, rest.1)
  where
    right : (a b c : Bool) → (a || (b || c)) ≡ false → b ≡ false
    right true b c e = let t : true ≡ false = e in absurd (cc)
    right false true c e = let t : true ≡ false = e in absurd (cc)
    right false false c e = refl

-- the entry at a place, and the two parts around it
pub cut : (es : List (ℕ × ℕ)) (n : ℕ) (e : ℕ × ℕ) → slice_get es n ≡ Some e → (drop n es ≡ e ∷ drop (n + 1) es) × (take (n + 1) es ≡ take n es ++ e ∷ [])
cut es n e at =
    let within : n < length es = slice_get_within es n e at in
    let is : get_or es n e ≡ e = get_or_from_slice_get es n e e at in
    let next : suc n ≡ n + 1 = omega arith in (
      drop-cons es n e within ∙ ap (λ (x : ℕ × ℕ). x ∷ drop (suc n) es) is ∙ ap (λ j. e ∷ drop j es) next,
      ap (λ j. take j es) (sym next) ∙ take-suc es n e within ∙ ap (λ (x : ℕ × ℕ). take n es ++ x ∷ []) is,
    )

-- the next grey name's key is on list 0
pub next_linked : (s : Sequences) (es : List (ℕ × ℕ)) (room n spare : ℕ) (e : ℕ × ℕ) → IsMark s es room n spare → slice_get es n ≡ Some e → is_in_list s.lists e.1 ≡ true
next_linked s es room n spare e m at =
    let parts = cut es n e at in
    in_some s.lists 0 e.1
    (ap (λ l. has_key e.1 (keys_of l 0)) m.lists ∙ ap (λ l. has_key e.1 (keys_in l)) parts.0 ∙ ap (λ b. b || has_key e.1 (keys_in (drop (n + 1) es))) (same e.1))

-- that name is grey no more
pub IsMark-scanned : (s t : Sequences) (es : List (ℕ × ℕ)) (room n spare : ℕ) (e : ℕ × ℕ) → IsMark s es room n spare → slice_get es n ≡ Some e
    → t.lists ≡ pushed 1 e.1 (unlinked e.1 s.lists) → t.live ≡ s.live → t.spare ≡ s.spare → IsMark t es room (n + 1) spare
IsMark-scanned s t es room n spare e m at lists live kept =
    let parts = cut es n e at in
    let k = e.1 in
    let before = keys_in (take n es) in
    let after = keys_in (drop (n + 1) es) in
    let whole : keys_in es ≡ before ++ k ∷ after =
    ap keys_in (sym (take-append-drop n es)) ∙ keys-append (take n es) (drop n es) ∙ ap (λ l. before ++ keys_in l) parts.0 in
    let alone = middle k before after (subst HasEachOnce whole m.keys) in
    let linked : s.lists ≡ (k ∷ after) ∷ before ∷ [] = m.lists ∙ ap (λ l. keys_in l ∷ before ∷ []) parts.0 in
    let first : without k (k ∷ after) ≡ after = cond-false (not (k == k)) (k ∷ without k after) (without k after) (ap not (same k)) ∙ without_none k after alone.1 in
    let second : without k before ≡ before = without_none k before alone.0 in
    record {
      lists =
          lists ∙ ap (λ l. pushed 1 k (unlinked k l)) linked
          ∙ ap (λ l. l ∷ (without k before ++ k ∷ []) ∷ []) first
          ∙ ap (λ l. after ∷ (l ++ k ∷ []) ∷ []) second
          ∙ ap (λ l. after ∷ l ∷ []) (sym (keys-append (take n es) (e ∷ [])) ∙ ap keys_in (sym parts.1));
      listed = AreListed-moved s t 1 k m.listed (two m) lists live;
      within = let w = slice_get_within es n e at in omega arith;
      names = m.names;
      keys = m.keys;
      keys_room = omega (arith, m.keys_room, kept);
      names_room = m.names_room;
    }

abbrev marking_of : List (ℕ × ℕ) → List (ℕ × ℕ) → ℕ → Marking
marking_of grey scanned spare = record { grey = grey; scanned = scanned; spare = spare }

-- the marking of two equal lists
pub same_marking : (g h s t : List (ℕ × ℕ)) (p : ℕ) → g ≡ h → s ≡ t → marking_of g s p ≡ marking_of h t p
same_marking g h s t p eg es = ap (λ (x : List (ℕ × ℕ)). marking_of x s p) eg ∙ ap (λ (x : List (ℕ × ℕ)). marking_of h x p) es

-- no key is first exactly where no name is grey
no_first : (l : List (ℕ × ℕ)) → first_key (keys_in l) ≡ None → l ≡ []
no_first [] e = refl
no_first (e ∷ es) h = absurd (cc)

pub none_grey : (s : Sequences) (es : List (ℕ × ℕ)) (room n spare : ℕ) → IsMark s es room n spare → first_key (keys_of s.lists 0) ≡ None → drop n es ≡ []
none_grey s es room n spare m h = no_first (drop n es) (ap (λ l. first_key (keys_of l 0)) (sym m.lists) ∙ h)

pub grey_none : (s : Sequences) (es : List (ℕ × ℕ)) (room n spare : ℕ) → IsMark s es room n spare → drop n es ≡ [] → first_key (keys_of s.lists 0) ≡ None
grey_none s es room n spare m h = ap (λ l. first_key (keys_of l 0)) m.lists ∙ ap (λ l. first_key (keys_in l)) h

-- two lists without keys
pub two_empty : (ls : List (List ℕ)) → length ls ≡ 2 → keys_of ls 0 ≡ [] → keys_of ls 1 ≡ [] → ls ≡ [] ∷ [] ∷ []
two_empty [] n a b = absurd (omega arith)
two_empty (x ∷ []) n a b = absurd (omega arith)
two_empty (x ∷ y ∷ []) n a b = ap (λ (l : List ℕ). l ∷ y ∷ []) a ∙ ap (λ (l : List ℕ). [] ∷ l ∷ []) b
two_empty (x ∷ y ∷ z ∷ zs) n a b = absurd (omega arith)

filter_short : (p : ℕ → Bool) (xs : List ℕ) → length (filter p xs) ≤ length xs
filter_short p [] = omega arith
filter_short p (x ∷ xs) = by (p x) (filter_short p xs)
  where
    by : (b : Bool) → length (filter p xs) ≤ length xs → length (cond b (x ∷ filter p xs) (filter p xs)) ≤ length (x ∷ xs)
    by true h = omega arith
    by false h = omega arith

-- a list that loses its first key is shorter
less : (k : ℕ) (xs : List ℕ) → first_key xs ≡ Some k → length (without k xs) < length xs
less k [] h = absurd (cc)
less k (x ∷ xs) h =
    let is : x ≡ k = cc in
    let gone : without k (x ∷ xs) ≡ without k xs = cond-false (not (x == k)) (x ∷ without k xs) (without k xs) (ap not (eq-eqb x k is)) in
    omega (arith, ap length gone, filter_short (λ y. not (y == k)) xs)

-- a list without keys has none once a key is taken out
pub emptied_stays : (ls : List (List ℕ)) (list k : ℕ) → keys_of ls list ≡ [] → keys_of (unlinked k ls) list ≡ []
emptied_stays ls list k none = get_or-map (without k) ls list [] ∙ ap (without k) none

pub shorter : (ls : List (List ℕ)) (list k : ℕ) → first_key (keys_of ls list) ≡ Some k → length (keys_of (unlinked k ls) list) < length (keys_of ls list)
shorter ls list k h = subst (λ l. length l < length (keys_of ls list)) (sym (get_or-map (without k) ls list [])) (less k (keys_of ls list) h)
