-- What a letter brings that isn't stray by itself.
use Rattle.std.proofs.lemmas.Bool.{ltb-false, eqb-true, eq-eqb, not-false, false≢true}
use Rattle.std.proofs.lemmas.List.Elements.{All-cons}
use Rattle.std.proofs.Common.{◌≡◌, ℕ, zero, suc, ◌+◌, ◌≤◌, ◌<◌, ◌==◌, ◌&&◌, ◌||◌, not, Bool, true, false, List, [], ◌∷◌, length, Option, Some, None, refl, sym, ◌∙◌, ap, arith}
use Rattle.std.specs.Prelude.{All, nat_lt, nat_le, slice_index_or}
use Rattle.std.specs.Option.{option_map_or}
use Rattle.std.specs.List.{list_any}
use Rattle.bmx_types.specs.Openings.{bunches_of}
use Rattle.bmx_types.specs.Words.{maker, count_of, home_of}
use Rattle.bmx_types.specs.declared.addresses.Info.{Info}
use Rattle.bmx_types.specs.declared.openings.Birth.{Birth}
use Rattle.bmx_msg.specs.declared.letters.Field.{Field}
use Rattle.bmx_msg.specs.declared.letters.Msg.{Msg}
use Rattle.bmx_msg.specs.declared.letters.Letter.{Letter}
use Rattle.bmx_token.specs.declared.parts.Part.{Part}
use Rattle.bmx_tokens.specs.Tables.{part_at}
use Rattle.bmx_protocol.specs.Nodes.{Setting, NodeState}
use Rattle.bmx_protocol.specs.Rules.{name_in, grant_in, infos}
use Rattle.bmx_protocol.specs.Strays.{too_large, is_no_node, is_no_name, is_bad_info, asker_in, is_bad_msg, is_bad_letter, some_clash}
use Rattle.bmx_memory.specs.Shown.{shown, known_with}
use Rattle.bmx_mail.specs.Mails.{taken_of}
use Rattle.bmx_node.specs.declared.holdings.Holdings.{Holdings}
use Rattle.bmx_node.specs.Seen.{state_of, places_of, limit_of, Suits}
use Rattle.bmx_node.specs.Inside.Keeping.{Keeps}
use Rattle.bmx_node.specs.Inside.Hearing.{IsNotToCome, CanHear}
use Rattle.bmx_node.specs.Inside.Taking.{CanTake}
use Rattle.bmx_node.proofs.Hearing.{or_left, or_right}

-- ## there is a store that holdings suit

births_of : ℕ → List Birth
births_of zero = []
births_of (suc n) = record { name = 0; bunch = n; fields = [] } ∷ []

count_births : (n : ℕ) → bunches_of (births_of n) ≡ n
unfolding births_of
count_births zero = refl
count_births (suc n) = omega arith

pub setting_of : Holdings → Setting
setting_of h = record { nodes = h.store.nodes; limit = limit_of h; births = births_of h.store.bunches }

pub setting_suits : (h : Holdings) → Suits (setting_of h) h
unfolding setting_of
setting_suits h = record { nodes = refl; bunches = count_births h.store.bunches; limit = refl }

-- ## what isn't bad

none_any : (p : Info → Bool) (xs : List Info) → list_any p xs ≡ false → All (λ x. p x ≡ false) xs
none_any p [] e = λ k d few. absurd (omega (arith, few))
none_any p (x ∷ xs) e = All-cons (λ y. p y ≡ false) x xs (or_left (p x) (list_any p xs) e) (none_any p xs (or_right (p x) (list_any p xs) e))

-- nothing of it is so
pub five : (a b c d e : Bool) → (a || b || c || d || e) ≡ false → (a ≡ false) × (b ≡ false) × (c ≡ false) × (d ≡ false) × (e ≡ false)
five true b c d e h = absurd (false≢true (sym h))
five false true c d e h = absurd (false≢true (sym h))
five false false true d e h = absurd (false≢true (sym h))
five false false false true e h = absurd (false≢true (sym h))
five false false false false true h = absurd (false≢true (sym h))
five false false false false false h = (refl, refl, refl, refl, refl)

four : (a b c d : Bool) → (a || b || c || d) ≡ false → (a ≡ false) × (b ≡ false) × (c ≡ false) × (d ≡ false)
four true b c d h = absurd (false≢true (sym h))
four false true c d h = absurd (false≢true (sym h))
four false false true d h = absurd (false≢true (sym h))
four false false false true h = absurd (false≢true (sym h))
four false false false false h = (refl, refl, refl, refl)

module _ (st : Setting) (me : ℕ) (s : NodeState) where
  info_parts : (i : Info) → is_bad_info st me s i ≡ false → (is_no_name st me s i.name ≡ false) × (nat_lt 32 i.size ≡ false)
  info_parts i e =
      let parts = five (is_no_name st me s i.name) (nat_le (bunches_of st.births) i.bunch) (is_no_node st (home_of i.place.address)) (nat_lt 32 i.size) (nat_le too_large i.place.moves) e in
      (parts.0, parts.3)

  small : (i : Info) → is_bad_info st me s i ≡ false → i.size ≤ 32
  small i e = ltb-false 32 i.size (info_parts i e).1

  made : (i : Info) → is_bad_info st me s i ≡ false → IsNotToCome me s.made i.name
  made i e its = by (maker i.name == me) (eq-eqb (maker i.name) me its) (or_right (is_no_node st (maker i.name)) (maker i.name == me && nat_lt s.made (count_of i.name)) (info_parts i e).0)
    where
      by : (b : Bool) → b ≡ true → (b && nat_lt s.made (count_of i.name)) ≡ false → count_of i.name ≤ s.made
      by true t e = ltb-false s.made (count_of i.name) e
      by false t e = absurd (false≢true t)

  sized : (o : Option (Info × List Field)) → option_map_or (λ (g : Info × List Field). not (length g.1 == g.0.size)) o false ≡ false → option_map_or (λ (g : Info × List Field). length g.1 == g.0.size) o true ≡ true
  sized None e = refl
  sized (Some g) e = not-false (length g.1 == g.0.size) e

  module _ (m : Msg) (good : is_bad_msg st me s m ≡ false) where
    msg_parts : (option_map_or (λ (g : Info × List Field). not (length g.1 == g.0.size)) (grant_in m) false ≡ false) × (list_any (is_bad_info st me s) (infos m) ≡ false)
    msg_parts =
        let parts = four (is_no_name st me s (name_in m)) (option_map_or (is_no_node st) (asker_in m) false) (option_map_or (λ (g : Info × List Field). not (length g.1 == g.0.size)) (grant_in m) false) (list_any (is_bad_info st me s) (infos m)) good in
        (parts.2, parts.3)

    infos_good : All (λ i. is_bad_info st me s i ≡ false) (infos m)
    infos_good = none_any (is_bad_info st me s) (infos m) msg_parts.1

    all_small : All (λ (i : Info). i.size ≤ 32) (infos m)
    all_small = λ k d lt. small (slice_index_or (infos m) k d) (infos_good k d lt)

    all_made : All (λ (i : Info). IsNotToCome me s.made i.name) (infos m)
    all_made = λ k d lt. made (slice_index_or (infos m) k d) (infos_good k d lt)

    fields_fit : option_map_or (λ (g : Info × List Field). length g.1 == g.0.size) (grant_in m) true ≡ true
    fields_fit = sized (grant_in m) msg_parts.0

  module _ (from : ℕ) (letter : Letter) (good : is_bad_letter st me s from letter ≡ false) where
    letter_parts : (not (letter.seq == s.taken from + 1) ≡ false) × (is_bad_msg st me s letter.msg ≡ false)
    letter_parts =
        let parts = five (from == me) (is_no_node st from) (not (letter.seq == s.taken from + 1)) (nat_le too_large letter.stamp) (is_bad_msg st me s letter.msg) good in
        (parts.2, parts.4)

    numbered_next : letter.seq ≡ s.taken from + 1
    numbered_next = eqb-true letter.seq (s.taken from + 1) (not-false (letter.seq == s.taken from + 1) letter_parts.0)

    msg_good : is_bad_msg st me s letter.msg ≡ false
    msg_good = letter_parts.1

    pub infos_none_bad : list_any (is_bad_info st me s) (infos letter.msg) ≡ false
    infos_none_bad = (msg_parts letter.msg msg_good).1

-- ## of holdings

pub clash_is : (h : Holdings) (from : ℕ) (m : Msg) (b : Bool) → Keeps h →
    ((giver : ℕ) (parts : ℕ → Part) → b ≡ some_clash (shown h.memory).me giver (known_with (shown h.memory).object parts) (shown h.memory).places (infos m)) →
    b ≡ some_clash h.me from (state_of h).known (places_of h) (infos m)
unfolding state_of places_of
clash_is h from m b keeps is =
    is from (part_at h.tokens) ∙ ap (λ (me : ℕ). some_clash me from (known_with (shown h.memory).object (part_at h.tokens)) (shown h.memory).places (infos m)) keeps.me

module _ (h : Holdings) (from : ℕ) (letter : Letter) (st : Setting) (good : is_bad_letter st h.me (state_of h) from letter ≡ false) where
  pub letter_small : All (λ (i : Info). i.size ≤ 32) (infos letter.msg)
  letter_small = all_small st h.me (state_of h) letter.msg (msg_good st h.me (state_of h) from letter good)

  pub letter_can : some_clash h.me from (state_of h).known (places_of h) (infos letter.msg) ≡ false → CanTake h from letter.msg
  unfolding state_of
  letter_can fits = record {
    can = record {
      fits = fits;
      small = letter_small;
      made = all_made st h.me (state_of h) letter.msg (msg_good st h.me (state_of h) from letter good);
    };
    fields = fields_fit st h.me (state_of h) letter.msg (msg_good st h.me (state_of h) from letter good);
  }

  pub letter_next : letter.seq ≡ taken_of h.mail from + 1
  unfolding state_of
  letter_next = numbered_next st h.me (state_of h) from letter good
