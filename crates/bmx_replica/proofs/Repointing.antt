-- Field words that are written again.
use Rattle.std.proofs.Common.{zero, suc, ◌≡◌, ◌≢◌, ◌⊎◌, ℕ, ◌+◌, ◌*◌, ◌/◌, ◌%◌, ◌^◌, ◌<◌, ◌≤◌, true, List, [], ◌∷◌, length, Option, Some, None, IsSome, IsSomeAnd, is_some, slice_get, slice_set, unwrap_or, refl, sym, ap, subst, ◌∙◌, inl, inr, arith}
use Rattle.std.specs.Prelude.{if◌then◌else◌}
use Rattle.std.specs.Option.{option_map, option_and_then}
use Rattle.std.proofs.lemmas.Bool.{cases_eq, eq-eqb, ne_eqb}
use Rattle.std.proofs.lemmas.Option.{none-some, same_Some}
use Rattle.bmx_types.specs.declared.values.Val.{Val}
use Rattle.bmx_types.specs.declared.values.Val.TheVariants as val
use Rattle.bmx_segment.specs.Headers.{kind_number, kind_of, with_kind, with_kind_at}
use Rattle.bmx_segment.specs.declared.headers.Kind.TheVariants.{Ref}
use Rattle.bmx_segment.specs.Stores.{header_at, word_at, Writes}
use Rattle.bmx_replica.specs.Slots.{slot_of, address_of}
use Rattle.bmx_replica.specs.Replicas.{Holding, Entry, IsReplica, entry_of, field_of, field_at, value_in, with_value, word_in, WritesField, IsCurrent, HasTarget, HasTargets, Repoints}
use Rattle.bmx_replica.specs.Chains.{is_live}
use Rattle.bmx_replica.specs.Layouts.{kinds_in}
use Rattle.bmx_segment.specs.declared.headers.Header.{Header}
use Rattle.bmx_segment.specs.declared.headers.State.{State}
use Rattle.bmx_segment.specs.declared.headers.State.TheVariants.{Live, Forwarded, Dead}
use Rattle.bmx_segment.specs.Blocks.{Block}
use Rattle.bmx_replica.proofs.Chained.{map_some}
use Rattle.bmx_replica.proofs.Standing.{found_at}
use Rattle.bmx_replica.proofs.Fielded.{field_of-there, field_of-found}
use Rattle.std.proofs.lemmas.Nat.{pow_pos}
use Rattle.bmx_types.specs.Updates.{Puts}
use Rattle.bmx_replica.specs.Inside.Replicas.{IsFound, OthersStay}
use Rattle.bmx_replica.specs.declared.words.Word.{Word}
use Rattle.bmx_replica.specs.declared.directory.Slot.{Slot}

set_same : (l : List Val) (i : ℕ) (v : Val) → slice_get l i ≡ Some v → slice_set l i v ≡ l
set_same [] i v e = refl
set_same (x ∷ xs) zero v e = ap (λ y. y ∷ xs) (sym (same_Some x v e))
set_same (x ∷ xs) (suc i) v e = ap (λ ys. x ∷ ys) (set_same xs i v e)

same_copy : (o : Option (List Val)) (i : ℕ) (v : Val) → option_and_then (λ (l : List Val). slice_get l i) o ≡ Some v → option_map (λ (l : List Val). slice_set l i v) o ≡ o
same_copy None i v e = refl
same_copy (Some l) i v e = ap Some (set_same l i v e)

same_value : (o : Option Entry) (i : ℕ) (v : Val) → option_and_then (λ (l : List Val). slice_get l i) (option_and_then (λ (e : Entry). e.copy) o) ≡ Some v → option_map (with_value i v) o ≡ o
same_value None i v e = refl
same_value (Some x) i v e = ap (λ (c : Option (List Val)). let y : Entry = record x { copy = c } in Some y) (same_copy x.copy i v e)

word_in-same : (old new : Holding) (v : Val) → new.slots ≡ old.slots → word_in new v ≡ word_in old v
word_in-same old new val.Null same = refl
word_in-same old new (val.Int k) same = refl
word_in-same old new (val.Ref m) same = λ i. record { kind = Ref; word = unwrap_or (address_of (same i) m) 0 }

pub field_of-entries : (old new : Holding) (q j : ℕ) → entry_of new q ≡ entry_of old q → field_of new q j ≡ field_of old q j
field_of-entries old new q j same = ap (λ (o : Option Entry). option_and_then (λ (l : List Val). slice_get l j) (option_and_then (λ (e : Entry). e.copy) o)) same

pub HasTarget-same : (old new : Holding) (v : Val) → ((q : ℕ) → entry_of new q ≡ entry_of old q) → HasTarget old v → HasTarget new v
HasTarget-same old new val.Null same h = tt
HasTarget-same old new (val.Int k) same h = tt
HasTarget-same old new (val.Ref m) same h = ap is_some (same m) ∙ h

pub HasTargets-same : (old new : Holding) → ((q : ℕ) → entry_of new q ≡ entry_of old q) → HasTargets old → HasTargets new
HasTargets-same old new same has = λ name i v e. HasTarget-same old new v same (has name i v (sym (field_of-entries old new name i (same name)) ∙ e))

-- the kind of a value's word is that of the word that it was read from
kind_of-value : (r : Holding) (blocks : List Block) (kind w : ℕ) → kind < 3 → kind_number (word_in r (value_in blocks kind w)).kind ≡ kind
kind_of-value r blocks kind w few =
    elim (cases_eq kind 1) [
      | inl one ↦ rw (eq-eqb kind 1 one) (sym one)
      | inr not_one ↦ elim (cases_eq kind 2) [
        | inl two ↦ rw (ne_eqb kind 1 not_one, eq-eqb kind 2 two) (sym two)
        | inr not_two ↦ rw (ne_eqb kind 1 not_one, ne_eqb kind 2 not_two) (omega arith)
      ]
    ]

-- a kind that is written again leaves the kinds
with_kind-same : (kinds i : ℕ) → with_kind kinds i (kind_of kinds i) ≡ kinds
with_kind-same kinds i =
    let q : ℕ = kinds / 2 ^ (2 * i) in
    let some = pow_pos (2 * i) in
    let four : q / 4 * 4 + q % 4 ≡ q = omega arith in
    let whole : kinds / 2 ^ (2 * i) * 2 ^ (2 * i) + kinds % 2 ^ (2 * i) ≡ kinds = omega arith in
    ap (λ m. m * 2 ^ (2 * i) + kinds % 2 ^ (2 * i)) four ∙ whole

same_state : (s : State) (i : ℕ) → is_live s ≡ true → with_kind_at s i (kind_of (kinds_in s) i) ≡ s
same_state (Live moves kinds) i live = ap (Live moves) (with_kind-same kinds i)
same_state (Forwarded to) i live = refl
same_state Dead i live = refl

some_and : (o : Option ℕ) (P : ℕ → Type 0) → IsSomeAnd o P → (a : ℕ) × (o ≡ Some a) × P a
some_and None P holds = absurd holds
some_and (Some a) P holds = (a, refl, holds)

module _ (old new : Holding) (name i : ℕ) (v : Val) (read : field_of old name i ≡ Some v) (w : WritesField old new name i v) (others : OthersStay old new name i) (kept : IsReplica old.slots old.heap.blocks) where
  abbrev entry : Puts (entry_of old) (entry_of new) name (option_map (with_value i v) (entry_of old name))
  entry = w.entry

  pub same_entries : (q : ℕ) → entry_of new q ≡ entry_of old q
  same_entries q =
      elim (cases_eq name q) [
        | inl same ↦
            entry q ∙ ap (λ b. if b then option_map (with_value i v) (entry_of old name) else entry_of old q) (eq-eqb name q same)
            ∙ same_value (entry_of old name) i v read ∙ ap (entry_of old) same
        | inr other ↦ entry q ∙ ap (λ b. if b then option_map (with_value i v) (entry_of old name) else entry_of old q) (ne_eqb name q other)
      ]

  same_slots : new.slots ≡ old.slots
  same_slots = ap (λ (r : Holding). r.slots) w.rest

  pub current_here : IsCurrent new name i
  current_here = λ u a is place.
      let same : v ≡ u = same_Some v u (sym read ∙ sym (field_of-entries old new name i (same_entries name)) ∙ is) in
      let was : address_of old.slots name ≡ Some a = ap (λ l. address_of l name) (sym same_slots) ∙ place in
      let W : Option ℕ → Type 0 = λ o. IsSomeAnd o (λ a. Writes old.heap.blocks new.heap.blocks a i (kind_number (word_in old v).kind) (word_in old v).word) in
      let one : W (Some a) = subst W was w.written in
      one.word ∙ ap (λ (w : Word). w.word) (sym (word_in-same old new v same_slots) ∙ ap (word_in new) same)

  pub current_kept : (q j : ℕ) → IsCurrent old q j → IsCurrent new q j
  current_kept q j h = λ u a is place.
      let was : field_of old q j ≡ Some u = sym (field_of-entries old new q j (same_entries q)) ∙ is in
      let at : address_of old.slots q ≡ Some a = ap (λ l. address_of l q) (sym same_slots) ∙ place in
      let stay : (q ≡ name → j ≡ i → ⊥) → word_at new.heap.blocks (a + 4 + j) ≡ (word_in new u).word = λ apart.
      others q j a apart at (ap is_some was) ∙ h u a was at ∙ ap (λ (w : Word). w.word) (sym (word_in-same old new u same_slots)) in
      elim (cases_eq q name) [
        | inl one ↦
            elim (cases_eq j i) [
              | inl two ↦
                  let there = current_here u a (ap (λ x. field_of new x i) (sym one) ∙ ap (field_of new q) (sym two) ∙ is) (ap (address_of new.slots) (sym one) ∙ place) in
                  ap (λ x. word_at new.heap.blocks (a + 4 + x)) two ∙ there
              | inr off ↦ stay (λ x y. off y)
            ]
        | inr off ↦ stay (λ x y. off x)
      ]

  at : (a : ℕ) × (address_of old.slots name ≡ Some a) × Writes old.heap.blocks new.heap.blocks a i (kind_number (word_in old v).kind) (word_in old v).word
  at = some_and (address_of old.slots name) _ w.written

  slot : (s : Slot) × (slot_of old.slots name ≡ Some s) × (s.address ≡ at.0)
  slot = map_some (λ (t : Slot). t.address) (slot_of old.slots name) at.0 at.1

  found : (h : Header) × IsFound old.slots old.heap.blocks name slot.0 h
  found = found_at old.slots old.heap.blocks name slot.0 kept slot.1

  there : header_at old.heap.blocks at.0 ≡ Some found.0
  there = ap (header_at old.heap.blocks) (sym slot.2) ∙ found.1.there

  same_kind : kind_number (word_in old v).kind ≡ kind_of (kinds_in found.0.state) i
  same_kind =
      let p = field_of-there old name slot.0 found.0 found.1 i (ap is_some read) in
      let is : field_at old.heap.blocks slot.0.address found.0 i ≡ v = same_Some _ v (sym (field_of-found old name slot.0 found.0 found.1 i p.0 p.1) ∙ read) in
      let few = (kept.fields slot.0.address i found.0 found.1.there found.1.live p.1).known in
      ap (λ (u : Val). kind_number (word_in old u).kind) (sym is) ∙ kind_of-value old old.heap.blocks (kind_of (kinds_in found.0.state) i) (word_at old.heap.blocks (slot.0.address + 4 + i)) few

  same_headers : (x : ℕ) → header_at new.heap.blocks x ≡ header_at old.heap.blocks x
  same_headers x =
      elim (cases_eq x at.0) [
        | inl here ↦
            let h : Header = found.0 in
            let now : header_at new.heap.blocks at.0 ≡ Some (record h { state = with_kind_at h.state i (kind_number (word_in old v).kind) }) =
            at.2.header ∙ ap (option_map (λ (y : Header). record y { state = with_kind_at y.state i (kind_number (word_in old v).kind) })) there in
            let state : with_kind_at h.state i (kind_number (word_in old v).kind) ≡ h.state = ap (with_kind_at h.state i) same_kind ∙ same_state h.state i found.1.live in
            ap (header_at new.heap.blocks) here ∙ now ∙ ap (λ (s : State). let y : Header = record h { state = s } in Some y) state ∙ sym there ∙ ap (header_at old.heap.blocks) (sym here)
        | inr off ↦ at.2.headers x off
      ]

  same_words : (x : ℕ) → ((a : ℕ) (h : Header) → header_at old.heap.blocks a ≡ Some h → (x < a) ⊎ (a + 4 ≤ x)) → ((q j a : ℕ) → address_of old.slots q ≡ Some a → IsSome (field_of old q j) → x ≢ a + 4 + j) → word_at new.heap.blocks x ≡ word_at old.heap.blocks x
  same_words x outside apart =
      let away = outside at.0 found.0 there in
      let not_kinds : x ≢ at.0 + 3 = λ e. elim away [ inl before ↦ omega arith | inr after ↦ omega arith ] in
      at.2.words x not_kinds (apart name i at.0 at.1 (ap is_some read))

  pub Repoints-field : Repoints old new
  Repoints-field = record {
    entries = same_entries;
    mapped = at.2.mapped;
    headers = same_headers;
    words = same_words;
    rest = w.rest;
    current = current_kept;
    keeps = w.keeps;
  }

pub Repoints-none : (r : Holding) → Repoints r r
Repoints-none r = record {
  entries = λ q. refl;
  mapped = λ k. refl;
  headers = λ x. refl;
  words = λ x outside apart. refl;
  rest = refl;
  current = λ q j h. h;
  keeps = record { names = λ x name h. h; meaning = λ w name h. h; reach = λ w name h. h };
}

pub Repoints-more : (a b c : Holding) → Repoints a b → Repoints b c → Repoints a c
Repoints-more a b c first then_ =
    let slots : b.slots ≡ a.slots = ap (λ (r : Holding). r.slots) first.rest in
    record {
      entries = λ q. then_.entries q ∙ first.entries q;
      mapped = λ k. then_.mapped k ∙ first.mapped k;
      headers = λ x. then_.headers x ∙ first.headers x;
      words = λ x outside apart.
          then_.words x (λ y h e. outside y h (sym (first.headers y) ∙ e))
          (λ q j y place has. apart q j y (ap (λ l. address_of l q) (sym slots) ∙ place) (subst (λ (o : Option Val). IsSome o) (field_of-entries a b q j (first.entries q)) has))
          ∙ first.words x outside apart;
      rest = then_.rest ∙ ap (λ (x : Holding). let y : Holding = record x { heap = record x.heap { blocks = c.heap.blocks } } in y) first.rest;
      current = λ q j h. then_.current q j (first.current q j h);
      keeps = record {
        names = λ x name h. then_.keeps.names x name (first.keeps.names x name h);
        meaning = λ w name h. then_.keeps.meaning w name (first.keeps.meaning w name h);
        reach = λ w name h. then_.keeps.reach w name (first.keeps.reach w name h);
      };
    }

-- where a name's slot stands in the list
pub listed : (slots : List (ℕ × Slot)) (name : ℕ) (s : Slot) → slot_of slots name ≡ Some s → (k : ℕ) × (k < length slots) × (slice_get slots k ≡ Some (name, s))
listed [] name s e = absurd (none-some s e)
listed (x ∷ xs) name s e =
    elim (cases_eq name x.0) [
      | inl same ↦
          let is : x.1 ≡ s = same_Some x.1 s (sym (ap (λ b. if b then Some x.1 else slot_of xs name) (eq-eqb name x.0 same)) ∙ e) in
          (0, omega arith, λ i. Some (sym same i, is i))
      | inr other ↦
          let l = listed xs name s (sym (ap (λ b. if b then Some x.1 else slot_of xs name) (ne_eqb name x.0 other)) ∙ e) in
          (suc l.0, omega (arith, l.1), l.2)
    ]
