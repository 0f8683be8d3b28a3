-- An object that is new under its name.
use Rattle.std.proofs.Common.{zero, suc, ◌≡◌, ℕ, ◌+◌, ◌*◌, ◌<◌, Bool, List, ◌∷◌, Option, Some, None, replicate, refl, sym, ap, ◌∙◌, inl, inr, arith}
use Rattle.std.specs.Prelude.{IsSomeAnd}
use Rattle.std.specs.Option.{option_map}
use Rattle.std.proofs.lemmas.Bool.{cases_lt}
use Rattle.std.proofs.lemmas.Option.{none-some}
use Rattle.bmx_types.specs.declared.values.Val.{Val}
use Rattle.bmx_types.specs.declared.values.Val.TheVariants as val
use Rattle.bmx_types.specs.declared.addresses.Info.{Info}
use Rattle.bmx_segment.specs.Headers.{kind_of}
use Rattle.bmx_segment.specs.Blocks.{Block}
use Rattle.bmx_segment.specs.Heaps.{Heap, PlacesIn, room_of, current_of}
use Rattle.bmx_segment.specs.Stores.{header_at, word_at}
use Rattle.bmx_segment.specs.declared.headers.Header.{Header}
use Rattle.bmx_replica.specs.Slots.{slot_of, address_of}
use Rattle.bmx_replica.specs.Inside.Slots.{PutsSlot}
use Rattle.bmx_replica.specs.Layouts.{blank_header}
use Rattle.bmx_replica.specs.Replicas.{IsReplica, entry_in, entry_at, field_at, values_of, value_in, HandsOut}
use Rattle.bmx_replica.specs.declared.directory.Slot.{Slot}
use Rattle.bmx_replica.proofs.Laid.{Laid, kind_of-none}
use Rattle.std.proofs.lemmas.Nat.{pow_pos}
use Rattle.bmx_replica.proofs.Chained.{alive}
use Rattle.bmx_replica.proofs.Standing.{Stands, slot_cases, entry_from}
use Rattle.bmx_replica.proofs.Changing.{Stands-laid, IsField-null}

-- a name without an entry has no slot
pub absent_slot : (slots : List (ℕ × Slot)) (blocks : List Block) (n : ℕ) → IsReplica slots blocks → entry_at slots blocks n ≡ None → slot_of slots n ≡ None
absent_slot slots blocks n kept e =
    elim (slot_cases (slot_of slots n)) [
      | inl none ↦ none
      | inr some ↦
          let t = some.0 in
          let was = alive blocks t.address n ((kept.entries n t.address).0 (ap (option_map (λ (y : Slot). y.address)) some.1)) in
          absurd (none-some (entry_in blocks t was.0) (sym e ∙ entry_from slots blocks n t was.0 some.1 was.1))
    ]

pub absent_place : (slots : List (ℕ × Slot)) (n x : ℕ) → slot_of slots n ≡ None → address_of slots n ≡ Some x → ⊥
absent_place slots n x none e = none-some x (sym (ap (option_map (λ (y : Slot). y.address)) none) ∙ e)

-- what is handed out changes no header and no word
pub HandsOut-same : (old mid : Heap) (bunch size at : ℕ) → HandsOut old mid bunch size at → ((x : ℕ) → header_at mid.blocks x ≡ header_at old.blocks x) × ((x : ℕ) → word_at mid.blocks x ≡ word_at old.blocks x)
HandsOut-same old mid bunch size at hands =
    elim (cases_lt (room_of old bunch) (4 + size)) [
      | inl lacks ↦ let f = hands.fresh lacks in (f.mapped.headers, f.mapped.words)
      | inr roomy ↦
          let got : (n : ℕ) × PlacesIn old mid n size at = placed (current_of old bunch) (hands.roomy roomy) in
          let same : mid.blocks ≡ old.blocks = ap (λ (h : Heap). h.blocks) got.1.handed in
          (λ x. ap (λ bs. header_at bs x) same, λ x. ap (λ bs. word_at bs x) same)
    ]
  where
    placed : (o : Option ℕ) → IsSomeAnd o (λ n. PlacesIn old mid n size at) → (n : ℕ) × PlacesIn old mid n size at
    placed None none = absurd none
    placed (Some n) p = (n, p)

pub HandsOut-me : (old mid : Heap) (bunch size at : ℕ) → HandsOut old mid bunch size at → mid.me ≡ old.me
HandsOut-me old mid bunch size at hands =
    elim (cases_lt (room_of old bunch) (4 + size)) [
      | inl lacks ↦ ap (λ (h : Heap). h.me) (hands.fresh lacks).rest
      | inr roomy ↦ placed (current_of old bunch) (hands.roomy roomy)
    ]
  where
    placed : (o : Option ℕ) → IsSomeAnd o (λ n. PlacesIn old mid n size at) → mid.me ≡ old.me
    placed None none = absurd none
    placed (Some n) p = ap (λ (h : Heap). h.me) p.handed

pub HandsOut-spare : (old mid : Heap) (bunch size at : ℕ) → HandsOut old mid bunch size at → mid.spare ≡ old.spare
HandsOut-spare old mid bunch size at hands =
    elim (cases_lt (room_of old bunch) (4 + size)) [
      | inl lacks ↦ ap (λ (h : Heap). h.spare) (hands.fresh lacks).rest
      | inr roomy ↦ placed (current_of old bunch) (hands.roomy roomy)
    ]
  where
    placed : (o : Option ℕ) → IsSomeAnd o (λ n. PlacesIn old mid n size at) → mid.spare ≡ old.spare
    placed None none = absurd none
    placed (Some n) p = ap (λ (h : Heap). h.spare) p.handed

values_of-null : (f : ℕ → Val) (n : ℕ) → ((i : ℕ) → i < n → f i ≡ val.Null) → values_of f n ≡ replicate n val.Null
values_of-null f zero null = refl
values_of-null f (suc n) null = λ k. null 0 (omega arith) k ∷ values_of-null (λ i. f (i + 1)) n (λ i small. null (i + 1) (omega arith)) k

module _ (slots slots' : List (ℕ × Slot)) (old new : List Block) (i : Info) (copy : Bool) (kept : IsReplica slots old) (absent : slot_of slots i.name ≡ None) (puts : PutsSlot slots slots' i.name (Some (record { address = i.place.address; has_copy = copy }))) (lays : Laid old new i.place.address (blank_header i) (λ _. 0)) (before : (t : Header) → header_at old i.place.address ≡ Some t → t.name ≡ i.name) where
  pub Stands-added : Stands slots' slots old new i.name (record { address = i.place.address; has_copy = copy }) (blank_header i)
  Stands-added =
      Stands-laid slots slots' old new i.name (record { address = i.place.address; has_copy = copy }) (blank_header i) (λ _. 0) kept puts refl refl lays before
      (λ k small. IsField-null old (kind_of 0 k) 0 (kind_of-none k) refl) (pow_pos (2 * i.size)) (λ none. refl) (λ x off e. absent_place slots i.name x absent e)

  pub null_fields : values_of (field_at new i.place.address (blank_header i)) i.size ≡ replicate i.size val.Null
  null_fields = values_of-null _ i.size (λ k small. ap (λ n. value_in new n (word_at new (i.place.address + 4 + k))) (kind_of-none k))
