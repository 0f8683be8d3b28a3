-- Where no header is dead: what words reach, and what is known of what they refer to.
use Rattle.std.proofs.Common.{◌≡◌, ◌≢◌, ℕ, ◌+◌, ◌<◌, ◌==◌, Bool, true, false, cond, List, Option, Some, None, IsSome, is_some, slice_get, unwrap_or, option_and_then, refl, sym, ap, ◌∙◌, subst, inl, inr, arith}
use Rattle.std.specs.Prelude.{ℤ, IsSomeAnd}
use Rattle.std.proofs.Math.Bool.{Bool-set}
use Rattle.std.proofs.Math.Logic.{∥∥₁_elim, ∥∥₁_map}
use Rattle.std.specs.Option.{option_map}
use Rattle.std.specs.Int.{w64, cast_signed}
use Rattle.std.proofs.lemmas.Bool.{eqb-true, false≢true}
use Rattle.std.proofs.lemmas.Option.{none-some, same_Some}
use Rattle.bmx_types.specs.Words.{IsAddress}
use Rattle.bmx_types.specs.declared.values.Val.{Val}
use Rattle.bmx_types.specs.declared.values.Val.TheVariants as val
use Rattle.bmx_segment.specs.Headers.{kind_number, kind_of}
use Rattle.bmx_segment.specs.Blocks.{Block}
use Rattle.bmx_segment.specs.Stores.{header_at, word_at}
use Rattle.bmx_segment.specs.declared.headers.Header.{Header}
use Rattle.bmx_segment.specs.declared.headers.Kind.{Kind}
use Rattle.bmx_segment.specs.declared.headers.Kind.TheVariants.{Null, Int, Ref, Far}
use Rattle.bmx_segment.specs.declared.headers.State.{State}
use Rattle.bmx_segment.specs.declared.headers.State.TheVariants.{Live, Forwarded, Dead}
use Rattle.bmx_replica.specs.declared.directory.Slot.{Slot}
use Rattle.bmx_replica.specs.Slots.{slot_of}
use Rattle.bmx_replica.specs.Chains.{is_live, is_end, name_at, living_at, Leads, here, on, EndsAs, EndsLive, Reaches}
use Rattle.bmx_replica.specs.Layouts.{kinds_in}
use Rattle.bmx_replica.specs.Replicas.{Holding, Entry, IsReplica, IsField, HasTarget, entry_in, entry_of, field_of, field_at, value_in}
use Rattle.bmx_replica.specs.Inside.Replicas.{IsFound}
use Rattle.bmx_replica.proofs.Chained.{map_some, living_at-from, Means-from}
use Rattle.bmx_replica.proofs.Fielded.{entry_of-found, field_of-there, field_of-found}
use Rattle.bmx_replica.proofs.Standing.{entry_none, slot_cases, found_at}
use Rattle.bmx_memory.specs.Contents.{Contents, value_at}
use Rattle.bmx_memory.specs.Inside.Keeping.{NoneDied, Keeps}
use Rattle.bmx_memory.specs.Meaning.{IsWordOf, StandsFor, MeansWhole}

-- where a chain ends
ended : {blocks : List Block} {b : ℕ} {x : Header} {a : ℕ} → Leads blocks b x a → (header_at blocks b ≡ Some x) × (is_end x.state ≡ true)
ended (here e end) = (e, end)
ended (on c h e f rest) = ended rest

end_lives : (s : State) → is_end s ≡ true → s ≢ Dead → is_live s ≡ true
end_lives (Live moves kinds) end standing = refl
end_lives (Forwarded to) end standing = end
end_lives Dead end standing = absurd (standing refl)

-- what holds of each value that a word may have holds of the one that it has
of_value : (P : Val → Type 0) (b c : Bool) (x y z : Val) → P x → (c ≡ true → P y) → P z → P (cond b x (cond c y z))
of_value P true c x y z one two three = one
of_value P false true x y z one two three = two refl
of_value P false false x y z one two three = three

reference : (b c : Bool) (k : ℤ) (n target : ℕ) → cond b (val.Int k) (cond c (val.Ref n) val.Null) ≡ val.Ref target → (c ≡ true) × (n ≡ target)
reference true c k n target e = absurd (cc)
reference false true k n target e = (refl, cc)
reference false false k n target e = absurd (cc)

header_some : (o : Option Header) → IsSome o → option_map (λ (h : Header). h.name) o ≡ Some (unwrap_or (option_map (λ (h : Header). h.name) o) 0)
header_some None there = absurd (false≢true there)
header_some (Some h) there = refl

some_of : {A : Type 0} (o : Option A) (v : A) → o ≡ Some v → IsSome o
some_of o v e = ap is_some e

-- a name's object, its slot and its header
pub record Standing (r : Holding) (name : ℕ) (e : Entry) : Type 0 where
  pub slot : Slot
  pub header : Header
  pub found : IsFound r.slots r.heap.blocks name slot header
  pub entry : entry_in r.heap.blocks slot header ≡ e

-- an entry's object is found
pub entry_stands : (r : Holding) (name : ℕ) (e : Entry) → IsReplica r.slots r.heap.blocks → entry_of r name ≡ Some e → Standing r name e
entry_stands r name e kept is =
    elim (slot_cases (slot_of r.slots name)) [
      | inl none ↦ absurd (none-some e (sym (entry_none r.slots r.heap.blocks name none) ∙ is))
      | inr some ↦
          let f = found_at r.slots r.heap.blocks name some.0 kept some.1 in
          record {
            slot = some.0;
            header = f.0;
            found = f.1;
            entry = same_Some (entry_in r.heap.blocks some.0 f.0) e (sym (entry_of-found r name some.0 f.0 f.1) ∙ is);
          }
    ]

entry_some : (o : Option Entry) (i : ℕ) → IsSome (option_and_then (λ (l : List Val). slice_get l i) (option_and_then (λ (e : Entry). e.copy) o)) → (e : Entry) × (o ≡ Some e)
entry_some None i there = absurd (false≢true there)
entry_some (Some e) i there = (e, refl)

-- a field that there is
pub record Fielded (r : Holding) (name i : ℕ) (v : Val) : Type 0 where
  pub slot : Slot
  pub header : Header
  pub found : IsFound r.slots r.heap.blocks name slot header
  pub within : i < header.size
  pub value : field_at r.heap.blocks slot.address header i ≡ v

pub field_stands : (r : Holding) (name i : ℕ) (v : Val) → IsReplica r.slots r.heap.blocks → field_of r name i ≡ Some v → Fielded r name i v
field_stands r name i v kept is =
    let e = entry_some (entry_of r name) i (some_of (field_of r name i) v is) in
    let s = entry_stands r name e.0 kept e.1 in
    let there = field_of-there r name s.slot s.header s.found i (some_of (field_of r name i) v is) in
    record {
      slot = s.slot;
      header = s.header;
      found = s.found;
      within = there.1;
      value = same_Some (field_at r.heap.blocks s.slot.address s.header i) v (sym (field_of-found r name s.slot s.header s.found i there.0 there.1) ∙ is);
    }

module _ (r : Holding) (kept : IsReplica r.slots r.heap.blocks) (standing : NoneDied r.heap.blocks) where
  ends_live : (w n : ℕ) → EndsAs r.heap.blocks w n → EndsLive r.heap.blocks w n
  ends_live w n e =
      let end = ended e.end.leads in
      record { end = e.end; named = e.named; live = end_lives e.end.header.state end.1 (standing e.end.at e.end.header end.0) }

  -- an address reaches the live header of the name in the header at it
  pub reaches_named : (w n : ℕ) → IsAddress w → name_at r.heap.blocks w ≡ Some n → Reaches r.heap.blocks w n
  reaches_named w n address e = record { address = address; ends = ∥∥₁_map (Means-from r.slots r.heap.blocks kept w n address e).ends (ends_live w n) }

  living_entry : (a n : ℕ) → living_at r.heap.blocks a ≡ Some n → (s : Slot) × (h : Header) × IsFound r.slots r.heap.blocks n s h × (s.address ≡ a)
  living_entry a n e =
      let slot = map_some (λ (t : Slot). t.address) (slot_of r.slots n) a ((kept.entries n a).1 e) in
      let f = found_at r.slots r.heap.blocks n slot.0 kept slot.1 in
      (slot.0, f.0, f.1, slot.2)

  -- and that name has an entry
  pub entry_named : (w n : ℕ) → IsAddress w → name_at r.heap.blocks w ≡ Some n → IsSome (entry_of r n)
  entry_named w n address e =
      ∥∥₁_elim {P = IsSome (entry_of r n)} (reaches_named w n address e).ends (Bool-set (is_some (entry_of r n)) true)
      (λ (x : EndsLive r.heap.blocks w n).
      let end = ended x.end.leads in
      let t = living_entry x.end.at n (living_at-from r.heap.blocks x.end.at x.end.header end.0 x.live ∙ ap Some x.named) in
      ap is_some (entry_of-found r n t.0 t.1 t.2))

  name_there : (w : ℕ) → IsSome (header_at r.heap.blocks w) → name_at r.heap.blocks w ≡ Some (unwrap_or (name_at r.heap.blocks w) 0)
  name_there w there = header_some (header_at r.heap.blocks w) there

  -- a value that a field word holds refers to a name with an entry
  pub target_held : (kind w : ℕ) → IsField r.heap.blocks kind w → HasTarget r (value_in r.heap.blocks kind w)
  target_held kind w field =
      of_value (HasTarget r) (kind == 1) (kind == 2) (val.Int (cast_signed w64 w)) (val.Ref (unwrap_or (name_at r.heap.blocks w) 0)) val.Null tt
      (λ c. let is = eqb-true kind 2 c in entry_named w _ (field.address is) (name_there w (field.there is)))
      tt

  reaches_held : (kind w target : ℕ) → IsField r.heap.blocks kind w → value_in r.heap.blocks kind w ≡ val.Ref target → Reaches r.heap.blocks w target
  reaches_held kind w target field e =
      let parts = reference (kind == 1) (kind == 2) (cast_signed w64 w) _ target e in
      let is : kind ≡ 2 = eqb-true kind 2 parts.0 in
      subst (Reaches r.heap.blocks w) parts.1 (reaches_named w _ (field.address is) (name_there w (field.there is)))

  -- and so do the values in copies
  pub field_target : (name i : ℕ) (v : Val) → field_of r name i ≡ Some v → HasTarget r v
  field_target name i v is =
      let f = field_stands r name i v kept is in
      subst (HasTarget r) f.value
      (target_held (kind_of (kinds_in f.header.state) i) (word_at r.heap.blocks (f.slot.address + 4 + i)) (kept.fields f.slot.address i f.header f.found.there f.found.live f.within))

  -- the word of a field that refers to a name reaches it
  field_reaches : (name i target : ℕ) (e : Entry) → entry_of r name ≡ Some e → field_of r name i ≡ Some (val.Ref target) → Reaches r.heap.blocks (word_at r.heap.blocks (e.place.address + 4 + i)) target
  field_reaches name i target e entry is =
      let f = field_stands r name i (val.Ref target) kept is in
      let same : entry_in r.heap.blocks f.slot f.header ≡ e = same_Some (entry_in r.heap.blocks f.slot f.header) e (sym (entry_of-found r name f.slot f.header f.found) ∙ entry) in
      let at : f.slot.address ≡ e.place.address = ap (λ (x : Entry). x.place.address) same in
      subst (λ (a : ℕ). Reaches r.heap.blocks (word_at r.heap.blocks (a + 4 + i)) target) at
      (reaches_held (kind_of (kinds_in f.header.state) i) (word_at r.heap.blocks (f.slot.address + 4 + i)) target (kept.fields f.slot.address i f.header f.found.there f.found.live f.within) f.value)

  word_held : (kind : Kind) (w : ℕ) → IsField r.heap.blocks (kind_number kind) w → IsWordOf r (record { kind = kind; word = w }) (value_at r (record { kind = kind; word = w }))
  word_held Null w field = (refl, field.null refl)
  word_held Int w field = (refl, refl)
  word_held Ref w field = (refl, reaches_named w _ (field.address refl) (name_there w (field.there refl)))
  word_held Far w field = absurd (let known = field.known in omega arith)

  header_stands : (name : ℕ) (e : Entry) → entry_of r name ≡ Some e → IsSomeAnd (header_at r.heap.blocks e.place.address) (StandsFor name e)
  header_stands name e is =
      let s = entry_stands r name e kept is in
      let P : Entry → Type 0 = λ x. IsSomeAnd (header_at r.heap.blocks x.place.address) (StandsFor name x) in
      let Q : Option Header → Type 0 = λ o. IsSomeAnd o (StandsFor name (entry_in r.heap.blocks s.slot s.header)) in
      subst P s.entry (subst Q (sym s.found.there) (record { named = s.found.named; live = s.found.live; bunch = refl; size = refl; moves = refl }))

  entry_of_header : (a name : ℕ) → living_at r.heap.blocks a ≡ Some name → IsSomeAnd (entry_of r name) (λ e. e.place.address ≡ a)
  entry_of_header a name e =
      let t = living_entry a name e in
      subst (λ (o : Option Entry). IsSomeAnd o (λ x. x.place.address ≡ a)) (sym (entry_of-found r name t.0 t.1 t.2)) t.3

-- what a memory keeps gives what its words mean
pub means_whole : (m : Contents) → Keeps m → MeansWhole m
means_whole m kept =
    let r : Holding = m.replica in
    record {
      entries = header_stands r kept.sound.replica kept.standing;
      headers = entry_of_header r kept.sound.replica kept.standing;
      apart = kept.sound.apart;
      registers = λ q w is. word_held r kept.sound.replica kept.standing w.kind w.word (kept.held q w is);
      fields = field_reaches r kept.sound.replica kept.standing;
    }
