-- What a step makes of shelves: the first key of one list goes behind all keys of another, and may get
-- another item.
use Rattle.std.proofs.Common.{◌≡◌, ◌≢◌, ℕ, ◌<◌, true, false, ◌||◌, ◌==◌, List, [], ◌∷◌, ◌++◌, length, drop, Option, Some, None, sym, ap, ◌∙◌, arith, inl, inr, ◌⊎◌}
use Rattle.std.proofs.lemmas.Bool.{cases_eq, or_cases, or_right, eqb-true, false_from_ne_true}
use Rattle.std.proofs.lemmas.List.{get_or-set_same, get_or-set_other}
use Rattle.bmx_ilist.specs.Sequences.{Sequences, keys_of, has_key, first_key, is_in_list, pushed, unlinked, HasEachOnce, AreApart}
use Rattle.bmx_ilist.proofs.Keys.{clash, first_has, first_taken, has_without_itself, has_key-push}
use Rattle.bmx_ilist.proofs.Steps.{popped_is, loose_each}
use Rattle.bmx_ilist.proofs.Calls.{length-unlinked, length-pushed}
use Rattle.bmx_shelves.specs.Inside.Keyed.{with_first, items_of, Sound}
use Rattle.bmx_shelves.proofs.Items.{items_of-same, items_of-push}

-- a list without its first key has no other keys, and not that one
pub has_rest : (q : ℕ) (ks : List ℕ) → has_key q (drop 1 ks) ≡ true → has_key q ks ≡ true
has_rest q [] h = h
has_rest q (k ∷ ks) h = or_right (k == q) (has_key q ks) h

pub first_gone : (k : ℕ) (ks : List ℕ) → HasEachOnce ks → first_key ks ≡ Some k → has_key k (drop 1 ks) ≡ false
first_gone k ks once first = ap (has_key k) (sym (first_taken k ks once first)) ∙ has_without_itself k ks

pub record Step {T : Type 0} (f g : ℕ → Option (Option T)) (s : Sequences) (new : List (List ℕ)) (from to k : ℕ) (v : Option (Option T)) : Type 0 where
  pub apart : AreApart s
  pub first : first_key (keys_of s.lists from) ≡ Some k
  pub lists : new ≡ pushed to k (unlinked k s.lists)
  pub from_in : from < length s.lists
  pub to_in : to < length s.lists
  pub differ : from ≢ to
  pub here : g k ≡ v
  pub there : (q : ℕ) → q ≢ k → g q ≡ f q

module _ {T : Type 0} (f g : ℕ → Option (Option T)) (s : Sequences) (new : List (List ℕ)) (from to k : ℕ) (v : Option (Option T)) (st : Step f g s new from to k v) where
  pub keys_from : keys_of new from ≡ drop 1 (keys_of s.lists from)
  keys_from =
      ap (λ l. keys_of l from) st.lists
      ∙ get_or-set_other (unlinked k s.lists) to from (keys_of (unlinked k s.lists) to ++ k ∷ []) [] st.differ
      ∙ ap (λ l. keys_of l from) (popped_is s from k st.apart st.first)
      ∙ get_or-set_same s.lists from (drop 1 (keys_of s.lists from)) [] st.from_in

  pub keys_to : keys_of new to ≡ keys_of s.lists to ++ k ∷ []
  keys_to =
      let long : length (unlinked k s.lists) ≡ length s.lists = length-unlinked k s.lists in
      let within : to < length s.lists = st.to_in in
      ap (λ l. keys_of l to) st.lists
      ∙ get_or-set_same (unlinked k s.lists) to (keys_of (unlinked k s.lists) to ++ k ∷ []) [] (omega arith)
      ∙ ap (λ xs. xs ++ k ∷ [])
      (ap (λ l. keys_of l to) (popped_is s from k st.apart st.first)
      ∙ get_or-set_other s.lists from to (drop 1 (keys_of s.lists from)) [] (λ e. st.differ (sym e)))

  pub keys_other : (m : ℕ) → m ≢ from → m ≢ to → keys_of new m ≡ keys_of s.lists m
  keys_other m not_from not_to =
      ap (λ l. keys_of l m) st.lists
      ∙ get_or-set_other (unlinked k s.lists) to m (keys_of (unlinked k s.lists) to ++ k ∷ []) [] not_to
      ∙ ap (λ l. keys_of l m) (popped_is s from k st.apart st.first)
      ∙ get_or-set_other s.lists from m (drop 1 (keys_of s.lists from)) [] not_from

  pub long_still : length new ≡ length s.lists
  long_still = ap length st.lists ∙ length-pushed to k (unlinked k s.lists) ∙ length-unlinked k s.lists

  -- the key stood in its list alone
  k_out : (m : ℕ) → m ≢ from → has_key k (keys_of s.lists m) ≡ false
  k_out m not_from = false_from_ne_true (has_key k (keys_of s.lists m)) (λ t. not_from (st.apart.one_list m from k t (first_has k (keys_of s.lists from) st.first)))

  others_in : (m : ℕ) → m ≢ from → (q : ℕ) → has_key q (keys_of s.lists m) ≡ true → q ≢ k
  others_in m not_from q h e = clash (has_key k (keys_of s.lists m)) (ap (λ x. has_key x (keys_of s.lists m)) (sym e) ∙ h) (k_out m not_from)

  rest_in : (q : ℕ) → has_key q (drop 1 (keys_of s.lists from)) ≡ true → q ≢ k
  rest_in q h e = clash (has_key k (drop 1 (keys_of s.lists from))) (ap (λ x. has_key x (drop 1 (keys_of s.lists from))) (sym e) ∙ h) (first_gone k (keys_of s.lists from) (st.apart.once from) st.first)

  -- where a key stands now: the key at the end of its new list, any other where it stood
  pub stands : (m q : ℕ) → has_key q (keys_of new m) ≡ true → ((q ≡ k) × (m ≡ to)) ⊎ ((q ≢ k) × (has_key q (keys_of s.lists m) ≡ true))
  stands m q h =
      elim (cases_eq m from) [
        | inl e ↦
            let rest : has_key q (drop 1 (keys_of s.lists from)) ≡ true = ap (has_key q) (sym keys_from) ∙ ap (λ j. has_key q (keys_of new j)) (sym e) ∙ h in
            inr (rest_in q rest, ap (λ j. has_key q (keys_of s.lists j)) e ∙ has_rest q (keys_of s.lists from) rest)
        | inr not_from ↦ elim (cases_eq m to) [
          | inl e ↦
              let both : (has_key q (keys_of s.lists to) || k == q) ≡ true = sym (has_key-push q k (keys_of s.lists to)) ∙ ap (has_key q) (sym keys_to) ∙ ap (λ j. has_key q (keys_of new j)) (sym e) ∙ h in
              elim (or_cases (has_key q (keys_of s.lists to)) (k == q) both) [
                | inl old ↦
                    let stood : has_key q (keys_of s.lists m) ≡ true = ap (λ j. has_key q (keys_of s.lists j)) e ∙ old in
                    inr (others_in m not_from q stood, stood)
                | inr is ↦ inl (sym (eqb-true k q is), e)
              ]
          | inr not_to ↦
              let stood : has_key q (keys_of s.lists m) ≡ true = ap (has_key q) (sym (keys_other m not_from not_to)) ∙ h in
              inr (others_in m not_from q stood, stood)
        ]
      ]

  pub items_other : (m : ℕ) → m ≢ from → m ≢ to → items_of g (keys_of new m) ≡ items_of f (keys_of s.lists m)
  items_other m not_from not_to =
      ap (items_of g) (keys_other m not_from not_to)
      ∙ items_of-same g f (keys_of s.lists m) (λ q h. st.there q (others_in m not_from q h))

  pub items_from : items_of g (keys_of new from) ≡ items_of f (drop 1 (keys_of s.lists from))
  items_from =
      ap (items_of g) keys_from
      ∙ items_of-same g f (drop 1 (keys_of s.lists from)) (λ q h. st.there q (rest_in q h))

  pub items_to : items_of g (keys_of new to) ≡ items_of f (keys_of s.lists to) ++ with_first v []
  items_to =
      ap (items_of g) keys_to
      ∙ items_of-push g (keys_of s.lists to) k
      ∙ ap (λ xs. xs ++ with_first (g k) []) (items_of-same g f (keys_of s.lists to) (λ q h. st.there q (others_in to (λ e. st.differ (sym e)) q h)))
      ∙ ap (λ o. items_of f (keys_of s.lists to) ++ with_first o []) st.here

  pub Sound-step : (n : ℕ) → Sound f s.lists n → (to ≡ n → v ≡ Some None) → (to ≢ n → (x : T) × (v ≡ Some (Some x))) → Sound g new n
  Sound-step n sound blank filled = record {
    long = long_still ∙ sound.long;
    filled = λ m q shelf h. elim (stands m q h) [
      | inl e ↦
          let had = filled (λ at. shelf (e.1 ∙ at)) in
          (had.0, ap g e.0 ∙ st.here ∙ had.1)
      | inr old ↦
          let had = sound.filled m q shelf old.1 in
          (had.0, st.there q old.0 ∙ had.1)
    ];
    blank = λ q h. elim (stands n q h) [
      | inl e ↦ ap g e.0 ∙ st.here ∙ blank (sym e.1)
      | inr old ↦ st.there q old.0 ∙ sound.blank q old.1
    ];
  }

-- a new key that is put in reserve
pub record Reserved {T : Type 0} (f g : ℕ → Option (Option T)) (old new : List (List ℕ)) (n k : ℕ) : Type 0 where
  pub loose : is_in_list old k ≡ false
  pub lists : new ≡ pushed n k old
  pub within : n < length old
  pub here : g k ≡ Some None
  pub there : (q : ℕ) → q ≢ k → g q ≡ f q

module _ {T : Type 0} (f g : ℕ → Option (Option T)) (old new : List (List ℕ)) (n k : ℕ) (r : Reserved f g old new n k) where
  pub keys_n : keys_of new n ≡ keys_of old n ++ k ∷ []
  keys_n = ap (λ l. keys_of l n) r.lists ∙ get_or-set_same old n (keys_of old n ++ k ∷ []) [] r.within

  keys_m : (m : ℕ) → m ≢ n → keys_of new m ≡ keys_of old m
  keys_m m ne = ap (λ l. keys_of l m) r.lists ∙ get_or-set_other old n m (keys_of old n ++ k ∷ []) [] ne

  is_other : (m q : ℕ) → has_key q (keys_of old m) ≡ true → q ≢ k
  is_other m q h e = clash (has_key k (keys_of old m)) (ap (λ x. has_key x (keys_of old m)) (sym e) ∙ h) (loose_each old k r.loose m)

  pub items_reserved : (m : ℕ) → m ≢ n → items_of g (keys_of new m) ≡ items_of f (keys_of old m)
  items_reserved m ne = ap (items_of g) (keys_m m ne) ∙ items_of-same g f (keys_of old m) (λ q h. r.there q (is_other m q h))

  pub Sound-reserved : Sound f old n → Sound g new n
  Sound-reserved sound = record {
    long = ap length r.lists ∙ length-pushed n k old ∙ sound.long;
    filled = λ m q shelf h.
        let stood : has_key q (keys_of old m) ≡ true = ap (has_key q) (sym (keys_m m shelf)) ∙ h in
        let had = sound.filled m q shelf stood in
        (had.0, r.there q (is_other m q stood) ∙ had.1);
    blank = λ q h.
        let both : (has_key q (keys_of old n) || k == q) ≡ true = sym (has_key-push q k (keys_of old n)) ∙ ap (has_key q) (sym keys_n) ∙ h in
        elim (or_cases (has_key q (keys_of old n)) (k == q) both) [
          | inl stood ↦ r.there q (is_other n q stood) ∙ sound.blank q stood
          | inr is ↦ ap g (sym (eqb-true k q is)) ∙ r.here
        ];
  }
