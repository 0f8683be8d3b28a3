-- What each call makes of the shelves.
use Rattle.std.proofs.Common.{◌≡◌, ◌≢◌, ℕ, zero, suc, ◌+◌, ◌<◌, false, List, [], ◌∷◌, ◌++◌, length, take, drop, replicate, slice_get, Option, Some, None, refl, sym, ap, ◌∙◌, arith, inl, inr}
use Rattle.std.proofs.lemmas.Bool.{cases_lt}
use Rattle.bmx_ilist.specs.Sequences.{Sequences, keys_of, first_key, is_in_list, pushed, unlinked, AreApart}
use Rattle.bmx_ilist.proofs.Keys.{first_has}
use Rattle.bmx_shelves.specs.Shelves.{on_shelf}
use Rattle.bmx_shelves.specs.Inside.Keyed.{with_first, items_of, shelves_in, Sound}
use Rattle.bmx_shelves.proofs.Items.{items_of-first, on_shelf-in, on_shelf-past, length-shelves_in}
use Rattle.bmx_shelves.proofs.Steps.{Step, keys_from, keys_to, keys_other, items_other, items_from, items_to, Sound-step, Reserved, keys_n, items_reserved, Sound-reserved}

-- how many keys a list has without its first, and with one more
length_rest : (ks : List ℕ) (k : ℕ) → first_key ks ≡ Some k → length (drop 1 ks) + 1 ≡ length ks
length_rest [] k first = cc
length_rest (x ∷ ks) k first = omega arith

length_push : (ks : List ℕ) (k : ℕ) → length (ks ++ k ∷ []) ≡ length ks + 1
length_push [] k = refl
length_push (x ∷ ks) k = let more : length (ks ++ k ∷ []) ≡ length ks + 1 = length_push ks k in omega arith

-- lists with no keys
keys_none : (n m : ℕ) → keys_of (replicate n []) m ≡ []
keys_none zero m = refl
keys_none (suc n) zero = refl
keys_none (suc n) (suc m) = keys_none n m

module _ {T : Type 0} where
  -- a shelf that has a list
  pub within : (f : ℕ → Option (Option T)) (lists : List (List ℕ)) (n m : ℕ) → Sound f lists n → m < length (shelves_in f lists n) → m < n
  within f lists n m sound lt =
      let long : length lists ≡ n + 1 = sound.long in
      let shelves : length (shelves_in f lists n) ≡ n = length-shelves_in f lists n (omega arith) in
      omega arith

  -- the first key of a shelf has an item
  pub first_item : (f : ℕ → Option (Option T)) (lists : List (List ℕ)) (n m k : ℕ) → Sound f lists n → m < n → first_key (keys_of lists m) ≡ Some k → (x : T) × (f k ≡ Some (Some x))
  first_item f lists n m k sound lt first =
      sound.filled m k (λ e. absurd (omega arith)) (first_has k (keys_of lists m) first)

  pub shelf_first : (f : ℕ → Option (Option T)) (lists : List (List ℕ)) (n m k : ℕ) (x : T) → m < n → first_key (keys_of lists m) ≡ Some k → f k ≡ Some (Some x) → on_shelf (shelves_in f lists n) m ≡ x ∷ items_of f (drop 1 (keys_of lists m))
  shelf_first f lists n m k x lt first has = on_shelf-in f lists n m lt ∙ items_of-first f (keys_of lists m) k x first has

  -- it is the first of the shelf
  pub front_is : (f : ℕ → Option (Option T)) (lists : List (List ℕ)) (n m k : ℕ) (o : Option T) → Sound f lists n → m < length (shelves_in f lists n) → first_key (keys_of lists m) ≡ Some k → Some o ≡ f k → o ≡ slice_get (on_shelf (shelves_in f lists n) m) 0
  front_is f lists n m k o sound lt first has =
      let low : m < n = within f lists n m sound lt in
      let item = first_item f lists n m k sound low first in
      let same : Some o ≡ Some (Some item.0) = has ∙ item.1 in
      let is : o ≡ Some item.0 = cc in
      is ∙ sym (ap (λ xs. slice_get xs 0) (shelf_first f lists n m k item.0 low first item.1))

  -- an empty list's shelf is empty
  pub front_none : (f : ℕ → Option (Option T)) (lists : List (List ℕ)) (n m : ℕ) → Sound f lists n → m < length (shelves_in f lists n) → first_key (keys_of lists m) ≡ None → None ≡ slice_get (on_shelf (shelves_in f lists n) m) 0
  front_none f lists n m sound lt first =
      sym (ap (λ xs. slice_get xs 0) (on_shelf-in f lists n m (within f lists n m sound lt) ∙ none (keys_of lists m) first))
    where
      none : (ks : List ℕ) → first_key ks ≡ None → items_of f ks ≡ []
      none [] e = refl
      none (k ∷ ks) e = cc

  pub shelf_none : (f : ℕ → Option (Option T)) (k n m : ℕ) → on_shelf (shelves_in f (replicate k []) n) m ≡ []
  shelf_none f k n m =
      elim (cases_lt m n) [
        | inl lt ↦ on_shelf-in f (replicate k []) n m lt ∙ ap (items_of f) (keys_none k m)
        | inr ge ↦ on_shelf-past f (replicate k []) n m ge
      ]

module _ {T : Type 0} (f g : ℕ → Option (Option T)) (s : Sequences) (new : List (List ℕ)) (from to k : ℕ) (v : Option (Option T)) (st : Step f g s new from to k v) where
  still : (n m : ℕ) → (m < n → m ≢ from) → (m < n → m ≢ to) → on_shelf (shelves_in g new n) m ≡ on_shelf (shelves_in f s.lists n) m
  still n m not_from not_to =
      elim (cases_lt m n) [
        | inl lt ↦ on_shelf-in g new n m lt ∙ items_other f g s new from to k v st m (not_from lt) (not_to lt) ∙ sym (on_shelf-in f s.lists n m lt)
        | inr ge ↦ on_shelf-past g new n m ge ∙ sym (on_shelf-past f s.lists n m ge)
      ]

  taken : (n : ℕ) (x : T) → from < n → f k ≡ Some (Some x) → on_shelf (shelves_in g new n) from ≡ drop 1 (on_shelf (shelves_in f s.lists n) from)
  taken n x lt has =
      on_shelf-in g new n from lt
      ∙ items_from f g s new from to k v st
      ∙ sym (ap (drop 1) (shelf_first f s.lists n from k x lt st.first has))

  put_behind : (n : ℕ) → to < n → on_shelf (shelves_in g new n) to ≡ on_shelf (shelves_in f s.lists n) to ++ with_first v []
  put_behind n lt =
      on_shelf-in g new n to lt
      ∙ items_to f g s new from to k v st
      ∙ ap (λ xs. xs ++ with_first v []) (sym (on_shelf-in f s.lists n to lt))

-- an item put at the end of a shelf
pub record Pushes {T : Type 0} (f g : ℕ → Option (Option T)) (old new : List (List ℕ)) (n shelf : ℕ) (x : T) : Type 0 where
  pub sound : Sound g new n
  pub behind : on_shelf (shelves_in g new n) shelf ≡ on_shelf (shelves_in f old n) shelf ++ x ∷ []
  pub others : (m : ℕ) → m ≢ shelf → on_shelf (shelves_in g new n) m ≡ on_shelf (shelves_in f old n) m
  pub spare : length (keys_of new n) + 1 ≡ length (keys_of old n)

pub pushes : {T : Type 0} (f g : ℕ → Option (Option T)) (s : Sequences) (new : List (List ℕ)) (n shelf k : ℕ) (x : T) → Sound f s.lists n → shelf < length (shelves_in f s.lists n) → AreApart s → first_key (keys_of s.lists n) ≡ Some k → new ≡ pushed shelf k (unlinked k s.lists) → g k ≡ Some (Some x) → ((q : ℕ) → q ≢ k → g q ≡ f q) → Pushes f g s.lists new n shelf x
pushes f g s new n shelf k x sound lt apart first lists here there =
    let low : shelf < n = within f s.lists n shelf sound lt in
    let long : length s.lists ≡ n + 1 = sound.long in
    let st : Step f g s new n shelf k (Some (Some x)) = record {
      apart = apart;
      first = first;
      lists = lists;
      from_in = omega arith;
      to_in = omega arith;
      differ = λ e. absurd (omega arith);
      here = here;
      there = there;
    } in
    record {
      sound = Sound-step f g s new n shelf k (Some (Some x)) st n sound (λ e. absurd (omega arith)) (λ _. (x, refl));
      behind = put_behind f g s new n shelf k (Some (Some x)) st n low;
      others = λ m ne. still f g s new n shelf k (Some (Some x)) st n m (λ below e. absurd (omega arith)) (λ _. ne);
      spare = ap (λ ks. length ks + 1) (keys_from f g s new n shelf k (Some (Some x)) st) ∙ length_rest (keys_of s.lists n) k first;
    }

-- the first item of a shelf taken off
pub record Drops {T : Type 0} (f g : ℕ → Option (Option T)) (old new : List (List ℕ)) (n shelf : ℕ) : Type 0 where
  pub sound : Sound g new n
  pub rest : on_shelf (shelves_in g new n) shelf ≡ drop 1 (on_shelf (shelves_in f old n) shelf)
  pub others : (m : ℕ) → m ≢ shelf → on_shelf (shelves_in g new n) m ≡ on_shelf (shelves_in f old n) m
  pub spare : length (keys_of new n) ≡ length (keys_of old n) + 1

pub drops : {T : Type 0} (f g : ℕ → Option (Option T)) (s : Sequences) (new : List (List ℕ)) (n shelf k : ℕ) → Sound f s.lists n → shelf < length (shelves_in f s.lists n) → AreApart s → first_key (keys_of s.lists shelf) ≡ Some k → new ≡ pushed n k (unlinked k s.lists) → g k ≡ Some None → ((q : ℕ) → q ≢ k → g q ≡ f q) → Drops f g s.lists new n shelf
drops f g s new n shelf k sound lt apart first lists here there =
    let low : shelf < n = within f s.lists n shelf sound lt in
    let long : length s.lists ≡ n + 1 = sound.long in
    let item = first_item f s.lists n shelf k sound low first in
    let st : Step f g s new shelf n k (Some None) = record {
      apart = apart;
      first = first;
      lists = lists;
      from_in = omega arith;
      to_in = omega arith;
      differ = λ e. absurd (omega arith);
      here = here;
      there = there;
    } in
    record {
      sound = Sound-step f g s new shelf n k (Some None) st n sound (λ _. refl) (λ ne. absurd (ne refl));
      rest = taken f g s new shelf n k (Some None) st n item.0 low item.1;
      others = λ m ne. still f g s new shelf n k (Some None) st n m (λ _. ne) (λ below e. absurd (omega arith));
      spare = ap length (keys_to f g s new shelf n k (Some None) st) ∙ length_push (keys_of s.lists n) k;
    }

-- the first item of a shelf put at the end of another
pub record Moves {T : Type 0} (f : ℕ → Option (Option T)) (old new : List (List ℕ)) (n from to : ℕ) : Type 0 where
  pub sound : Sound f new n
  pub rest : on_shelf (shelves_in f new n) from ≡ drop 1 (on_shelf (shelves_in f old n) from)
  pub behind : on_shelf (shelves_in f new n) to ≡ on_shelf (shelves_in f old n) to ++ take 1 (on_shelf (shelves_in f old n) from)
  pub others : (m : ℕ) → m ≢ from → m ≢ to → on_shelf (shelves_in f new n) m ≡ on_shelf (shelves_in f old n) m
  pub spare : length (keys_of new n) ≡ length (keys_of old n)

pub moves : {T : Type 0} (f : ℕ → Option (Option T)) (s : Sequences) (new : List (List ℕ)) (n from to k : ℕ) → Sound f s.lists n → from < length (shelves_in f s.lists n) → to < length (shelves_in f s.lists n) → from ≢ to → AreApart s → first_key (keys_of s.lists from) ≡ Some k → new ≡ pushed to k (unlinked k s.lists) → Moves f s.lists new n from to
moves f s new n from to k sound from_lt to_lt differ apart first lists =
    let from_low : from < n = within f s.lists n from sound from_lt in
    let to_low : to < n = within f s.lists n to sound to_lt in
    let long : length s.lists ≡ n + 1 = sound.long in
    let item = first_item f s.lists n from k sound from_low first in
    let st : Step f f s new from to k (Some (Some item.0)) = record {
      apart = apart;
      first = first;
      lists = lists;
      from_in = omega arith;
      to_in = omega arith;
      differ = differ;
      here = item.1;
      there = λ q _. refl;
    } in
    record {
      sound = Sound-step f f s new from to k (Some (Some item.0)) st n sound (λ e. absurd (omega arith)) (λ _. (item.0, refl));
      rest = taken f f s new from to k (Some (Some item.0)) st n item.0 from_low item.1;
      behind = put_behind f f s new from to k (Some (Some item.0)) st n to_low
          ∙ ap (λ xs. on_shelf (shelves_in f s.lists n) to ++ xs) (sym (ap (take 1) (shelf_first f s.lists n from k item.0 from_low first item.1)));
      others = λ m not_from not_to. still f f s new from to k (Some (Some item.0)) st n m (λ _. not_from) (λ _. not_to);
      spare = ap length (keys_other f f s new from to k (Some (Some item.0)) st n (λ e. absurd (omega arith)) (λ e. absurd (omega arith)));
    }

-- one key more in reserve
pub record Reserves {T : Type 0} (f g : ℕ → Option (Option T)) (old new : List (List ℕ)) (n : ℕ) : Type 0 where
  pub sound : Sound g new n
  pub items : (m : ℕ) → on_shelf (shelves_in g new n) m ≡ on_shelf (shelves_in f old n) m
  pub spare : length (keys_of new n) ≡ length (keys_of old n) + 1

pub reserves : {T : Type 0} (f g : ℕ → Option (Option T)) (old new : List (List ℕ)) (n k : ℕ) → Sound f old n → is_in_list old k ≡ false → new ≡ pushed n k old → g k ≡ Some None → ((q : ℕ) → q ≢ k → g q ≡ f q) → Reserves f g old new n
reserves f g old new n k sound loose lists here there =
    let long : length old ≡ n + 1 = sound.long in
    let r : Reserved f g old new n k = record {
      loose = loose;
      lists = lists;
      within = omega arith;
      here = here;
      there = there;
    } in
    record {
      sound = Sound-reserved f g old new n k r sound;
      items = λ m. elim (cases_lt m n) [
        | inl lt ↦ on_shelf-in g new n m lt ∙ items_reserved f g old new n k r m (λ e. absurd (omega arith)) ∙ sym (on_shelf-in f old n m lt)
        | inr ge ↦ on_shelf-past g new n m ge ∙ sym (on_shelf-past f old n m ge)
      ];
      spare = ap length (keys_n f g old new n k r) ∙ length_push (keys_of old n) k;
    }
