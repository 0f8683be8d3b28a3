-- A copy that is installed.
use Rattle.std.proofs.Common.{◌≡◌, ℕ, ◌<◌, zero, suc, List, [], ◌∷◌, length, map, Option, Some, None, refl, ap, subst, arith}
use Rattle.std.specs.Prelude.{All, IsSomeAnd, slice_index, slice_index_or}
use Rattle.std.specs.Option.{option_map}
use Rattle.bmx_types.specs.declared.values.Val.{Val}
use Rattle.bmx_msg.specs.declared.letters.Field.{Field}
use Rattle.bmx_msg.specs.declared.letters.Field.TheVariants as msg_field
use Rattle.bmx_segment.specs.Heaps.{Heap}
use Rattle.bmx_segment.specs.Stores.{header_at, Lays}
use Rattle.bmx_segment.specs.declared.headers.Header.{Header}
use Rattle.bmx_replica.specs.Slots.{address_of}
use Rattle.bmx_replica.specs.Layouts.{with_kinds, kinds_of}
use Rattle.bmx_replica.specs.Letters.{value_told, values_told}
use Rattle.bmx_replica.specs.Replicas.{Holding, Entry, IsReplica, HasTarget, Installs, entry_of, word_in}
use Rattle.bmx_replica.specs.Replicas.{with_copy as with_values}
use Rattle.bmx_protocol.specs.Nodes.{field_of, value_in}
use Rattle.bmx_protocol.specs.Rules.{heard_field}
use Rattle.bmx_memory.specs.Contents.{Contents}
use Rattle.bmx_memory.specs.Shown.{Object, HasEntry, shown, object_of, places_of, with_copy, with_fields}
use Rattle.bmx_memory.specs.Inside.Keeping.{Keeps}
use Rattle.bmx_memory.proofs.Shows.{target_shown, shown_changed}
use Rattle.bmx_memory.proofs.Seen.{Recast, recast_laid, object_put, place_put, places_kept}

-- ## what a letter tells of fields

value_heard : (f : Field) → value_in (heard_field f) ≡ value_told f
value_heard msg_field.Null = refl
value_heard (msg_field.Int k) = refl
value_heard (msg_field.Ref info) = refl

field_heard : (f : Field) → field_of (value_told f) ≡ heard_field f
field_heard msg_field.Null = refl
field_heard (msg_field.Int k) = refl
field_heard (msg_field.Ref info) = refl

fields_heard : (fields : List Field) → map field_of (values_told fields) ≡ map heard_field fields
fields_heard [] = refl
fields_heard (f ∷ fields) = λ k. field_heard f k ∷ fields_heard fields k

all_mapped : {A B : Type 0} (g : A → B) (P : B → Type 0) (l : List A) → All (λ x. P (g x)) l → (k : ℕ) (d : B) → k < length (map g l) → P (slice_index_or (map g l) k d)
all_mapped g P [] all k d small = absurd (omega arith)
all_mapped g P (x ∷ l) all zero d small = all 0 x (omega arith)
all_mapped g P (x ∷ l) all (suc k) d small = all_mapped g P l (λ j e less. all (suc j) e (omega (arith, less))) k d (omega (arith, small))

-- ## what has to be shown first

sized : (n : ℕ) (o : Option Entry) → IsSomeAnd (option_map object_of o) (λ (b : Object). n ≡ b.size) → IsSomeAnd o (λ (e : Entry). n ≡ e.size)
sized n None size = size
sized n (Some e) size = size

pub size_shown : (m : Contents) (name n : ℕ) → IsSomeAnd ((shown m).object name) (λ (b : Object). n ≡ b.size) → IsSomeAnd (entry_of m.replica name) (λ (e : Entry). n ≡ e.size)
unfolding shown
size_shown m name n size = sized n (entry_of m.replica name) size

pub targets_shown : (m : Contents) (fields : List Field) → All (λ f. HasEntry (shown m) (value_in (heard_field f))) fields → All (λ v. HasTarget m.replica v) (values_told fields)
targets_shown m fields known =
    all_mapped value_told (HasTarget m.replica) fields
    (λ k d small. let f : Field = slice_index_or fields k d in target_shown m (value_told f) (subst (HasEntry (shown m)) (value_heard f) (known k d small)))

-- ## what is shown then

header_installed : (old new : Holding) (name a kinds : ℕ) (f : ℕ → ℕ) (o : Option Header) → IsReplica old.slots old.heap.blocks → address_of old.slots name ≡ Some a → header_at old.heap.blocks a ≡ o
    → IsSomeAnd o (λ h. Lays old.heap.blocks new.heap.blocks a (with_kinds h kinds) f) → Recast old new
header_installed old new name a kinds f None kept at there lays = absurd lays
header_installed old new name a kinds f (Some h) kept at there lays = recast_laid old new name a h kinds f kept at there lays

name_installed : (old new : Holding) (name kinds : ℕ) (f : ℕ → ℕ) (o : Option ℕ) → IsReplica old.slots old.heap.blocks → address_of old.slots name ≡ o
    → IsSomeAnd o (λ a. IsSomeAnd (header_at old.heap.blocks a) (λ h. Lays old.heap.blocks new.heap.blocks a (with_kinds h kinds) f)) → Recast old new
name_installed old new name kinds f None kept at laid = absurd laid
name_installed old new name kinds f (Some a) kept at laid = header_installed old new name a kinds f (header_at old.heap.blocks a) kept at refl laid

pub recast_installed : (old new : Holding) (name : ℕ) (fields : List Val) → IsReplica old.slots old.heap.blocks → Installs old new name fields → Recast old new
recast_installed old new name fields kept i =
    name_installed old new name (kinds_of (map (word_in old) fields)) (λ j. slice_index (map (λ v. (word_in old v).word) fields) j) (address_of old.slots name) kept refl i.laid

pub shown_installed : (m : Contents) (new : Holding) (name : ℕ) (fields : List Field) → Keeps m → Installs m.replica new name (values_told fields)
    → shown (record m { replica = new }) ≡ with_copy (shown m) name (Some (map heard_field fields))
unfolding shown
shown_installed m new name fields kept i =
    let old : Holding = m.replica in
    let cast = recast_installed old new name (values_told fields) kept.sound.replica i in
    shown_changed m new _ (places_of old) kept i.keeps.names (ap (λ (h : Heap). h.me) i.heap) (ap (λ (h : Heap). h.limit) i.heap)
    (object_put old new name (with_values (values_told fields)) (with_fields (Some (map heard_field fields)))
    (λ e. ap (λ l. let b : Object = record { bunch = e.bunch; size = e.size; copy = Some l } in b) (fields_heard fields)) i.entry)
    (places_kept old new (place_put old new name (with_values (values_told fields)) (λ e. refl) i.entry) cast.headers cast.mapped i.heap)
