-- Where a name's object is found.
use Rattle.std.specs.Prelude.{◌≡◌, ℕ, ◌+◌, ◌≤◌, true, List, Some, IsSome, slice_get, slice_index}
use Rattle.bmx_types.specs.declared.values.Val.{Val}
use Rattle.bmx_types.specs.declared.addresses.Info.{Info}
use Rattle.bmx_replica.specs.Layouts.{moves_in}
use Rattle.bmx_segment.specs.Headers.{header_words, kind_number}
use Rattle.bmx_segment.specs.Blocks.{Block}
use Rattle.bmx_segment.specs.Stores.{header_at, word_at}
use Rattle.bmx_segment.specs.declared.headers.Header.{Header}
use Rattle.bmx_replica.specs.Slots.{slot_of, address_of}
use Rattle.bmx_replica.specs.Chains.{is_live}
use Rattle.bmx_replica.specs.Replicas.{Holding, IsField, field_of, value_in, word_in}
use Rattle.bmx_replica.specs.declared.directory.Slot.{Slot}

-- a header of a name's object stands at its slot's address
pub record IsFound (slots : List (ℕ × Slot)) (blocks : List Block) (name : ℕ) (s : Slot) (h : Header) : Type 0 where
  pub slot : slot_of slots name ≡ Some s
  pub there : header_at blocks s.address ≡ Some h
  pub live : is_live h.state ≡ true
  pub named : h.name ≡ name

-- a header is that of an Info's object, moved no less often than the Info says
pub record Tells (h : Header) (i : Info) : Type 0 where
  pub live : is_live h.state ≡ true
  pub named : h.name ≡ i.name
  pub bunch : h.bunch ≡ i.bunch
  pub size : h.size ≡ i.size
  pub old : i.place.moves ≤ moves_in h.state

-- no word of another field of a copy changes
abbrev pub OthersStay : Holding → Holding → ℕ → ℕ → Type 0
OthersStay old new name i = (q j a : ℕ) → (q ≡ name → j ≡ i → ⊥) → address_of old.slots q ≡ Some a → IsSome (field_of old q j) → word_at new.heap.blocks (a + header_words + j) ≡ word_at old.heap.blocks (a + header_words + j)

-- a word is that of a value, and holds it
pub record IsHeld (r : Holding) (v : Val) (w : ℕ) : Type 0 where
  pub word : w ≡ (word_in r v).word
  pub field : IsField r.heap.blocks (kind_number (word_in r v).kind) w
  pub value : value_in r.heap.blocks (kind_number (word_in r v).kind) w ≡ v

-- the first of some words are those of values, in order
abbrev pub AreHeld : Holding → List Val → List ℕ → Type 0
AreHeld r fields words = (i : ℕ) (v : Val) → slice_get fields i ≡ Some v → IsHeld r v (slice_index words i)
