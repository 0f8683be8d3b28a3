-- An object where it stands.
use Rattle.std.proofs.Common.{◌≡◌, ℕ, ◌<◌, ◌≤◌, Bool, true, false, Option, Some, None, IsSome, is_some, unwrap_or, sym, ap, subst, ◌∙◌, refl, arith}
use Rattle.std.specs.Prelude.{if◌then◌else◌, IfSome, IfNone}
use Rattle.bmx_types.specs.Words.{IsAddress}
use Rattle.bmx_types.specs.declared.values.Val.TheVariants as val
use Rattle.bmx_segment.specs.declared.headers.Kind.TheVariants.{Ref}
use Rattle.bmx_replica.specs.Chains.{name_at, Ends, EndsLive, here}
use Rattle.std.proofs.lemmas.Bool.{false≢true}
use Rattle.bmx_segment.specs.Stores.{header_at}
use Rattle.bmx_replica.specs.Slots.{slot_of, address_of}
use Rattle.bmx_replica.specs.Layouts.{kinds_in}
use Rattle.bmx_replica.specs.Replicas.{Holding, Entry, IsReplica, StandsAt, IsHolding, entry_of, copy_of, field_at, field_of, values_of}
use Rattle.bmx_replica.specs.Inside.Replicas.{IsFound}
use Rattle.bmx_replica.specs.declared.directory.Slot.{Slot}
use Rattle.bmx_replica.specs.declared.objects.Object.{Object}
use Rattle.bmx_replica.proofs.Chained.{map_some, living_at-from, name_at-from, is_end-live}
use Rattle.bmx_replica.proofs.Fielded.{entry_of-found, copy_of-found, field_of-found, field_of-past}

-- the slot of its name is there
pub found_of : (r : Holding) (o : Object) → IsReplica r.slots r.heap.blocks → StandsAt r o → (s : Slot) × (s.address ≡ o.address) × IsFound r.slots r.heap.blocks o.header.name s o.header
found_of r o kept at =
    let t = map_some (λ (t : Slot). t.address) (slot_of r.slots o.header.name) o.address ((kept.entries o.header.name o.address).1 (living_at-from r.heap.blocks o.address o.header at.there at.live)) in
    (t.0, t.2, record { slot = t.1; there = ap (header_at r.heap.blocks) t.2 ∙ at.there; live = at.live; named = refl })

some_if : {A : Type 0} (b : Bool) (x : A) → IsSome (if b then Some x else None) → b ≡ true
some_if true x is = refl
some_if false x is = absurd (false≢true is)

not_false : (b : Bool) → (b ≡ false → ⊥) → b ≡ true
not_false true off = refl
not_false false off = absurd (off refl)

module _ (r : Holding) (o : Object) (kept : IsReplica r.slots r.heap.blocks) (at : StandsAt r o) where
  pub copied : IsSome (copy_of r o.header.name) → (found_of r o kept at).0.has_copy ≡ true
  copied is =
      let f = found_of r o kept at in
      some_if f.0.has_copy _ (subst IsSome (copy_of-found r o.header.name f.0 o.header f.2) is)

  -- a field of its copy
  pub field_there : (i : ℕ) → IsSome (copy_of r o.header.name) → i < o.header.size → field_of r o.header.name i ≡ Some (field_at r.heap.blocks o.address o.header i)
  field_there i is lt =
      let f = found_of r o kept at in
      field_of-found r o.header.name f.0 o.header f.2 i (copied is) lt ∙ ap (λ a. Some (field_at r.heap.blocks a o.header i)) f.1

  -- where a field isn't null it has a copy
  pub copied_there : (kinds_in o.header.state ≡ 0 → ⊥) → IsSome (copy_of r o.header.name)
  copied_there some =
      let f = found_of r o kept at in
      let copied : f.0.has_copy ≡ true = not_false f.0.has_copy (λ none. some (kept.blank o.header.name f.0 o.header f.2.slot none f.2.there)) in
      ap is_some (copy_of-found r o.header.name f.0 o.header f.2 ∙ ap (λ b. if b then Some (values_of (field_at r.heap.blocks f.0.address o.header) o.header.size) else None) copied)

  -- its name has an entry
  pub entry_there : IsSome (entry_of r o.header.name)
  entry_there = let f = found_of r o kept at in ap is_some (entry_of-found r o.header.name f.0 o.header f.2)

  -- a field that it hasn't
  pub field_past : (i : ℕ) → o.header.size ≤ i → field_of r o.header.name i ≡ None
  field_past i past =
      let f = found_of r o kept at in
      field_of-past r o.header.name f.0 o.header f.2 i past

-- the word of its address holds its name
pub IsHolding-object : (r : Holding) (o : Object) (w : ℕ) → IsReplica r.slots r.heap.blocks → StandsAt r o → IsAddress w → w ≡ o.address → IsHolding r (record { value = val.Ref o.header.name; word = record { kind = Ref; word = w } })
IsHolding-object r o w kept at address is =
    let there : header_at r.heap.blocks w ≡ Some o.header = ap (header_at r.heap.blocks) is ∙ at.there in
    let named : name_at r.heap.blocks w ≡ Some o.header.name = name_at-from r.heap.blocks w o.header there in
    let place : address_of r.slots o.header.name ≡ Some w = (kept.entries o.header.name o.address).1 (living_at-from r.heap.blocks o.address o.header at.there at.live) ∙ ap Some (sym is) in
    let end : Ends r.heap.blocks w = record { at = w; header = o.header; leads = here there (is_end-live o.header.state at.live) } in
    let lives : EndsLive r.heap.blocks w o.header.name = record { end = end; named = refl; live = at.live } in
    record {
      word = λ k. record { kind = Ref; word = unwrap_or (sym place k) 0 };
      field = record { known = omega arith; null = λ e. absurd (omega arith); address = λ e. address; there = λ e. ap is_some there };
      holds = ap (λ (n : Option ℕ). val.Ref (unwrap_or n 0)) named;
      reach = record { address = address; ends = ∣ lives ∣₁ };
    }

-- ---- the object that a word means

pub none_any : {A : Type 0} (o : Option A) (P : Type 0) → P → IfNone o P
none_any None P h = h
none_any (Some x) P h = tt

pub means_of : (o : Option Object) (n : ℕ) (m : Option ℕ) → m ≡ Some n → IfSome o (λ x. x.header.name ≡ n) → IfSome o (λ x. m ≡ Some x.header.name)
means_of None n m is named = tt
means_of (Some x) n m is named = is ∙ ap Some (sym named)

pub none_of : (o : Option Object) (e : Option Entry) (P : Type 0) → is_some o ≡ is_some e → (e ≡ None → P) → IfNone o P
none_of None None P same h = h refl
none_of None (Some x) P same h = absurd (false≢true same)
none_of (Some x) e P same h = tt
