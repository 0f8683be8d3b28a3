-- What a memory keeps.
use Rattle.std.specs.Prelude.{◌≡◌, ◌≢◌, ℕ, List, length, slice_get, Some}
use Rattle.bmx_segment.specs.Blocks.{Block}
use Rattle.bmx_segment.specs.Headers.{kind_number}
use Rattle.bmx_segment.specs.Heaps.{IsHeap}
use Rattle.bmx_segment.specs.Stores.{header_at, AreApart}
use Rattle.bmx_segment.specs.declared.headers.Header.{Header}
use Rattle.bmx_segment.specs.declared.headers.State.TheVariants.{Dead}
use Rattle.bmx_replica.specs.declared.words.Word.{Word}
use Rattle.bmx_types.specs.declared.values.Val.TheVariants as val
use Rattle.bmx_replica.specs.Replicas.{Holding, IsField, IsReplica, StandsAt}
use Rattle.bmx_memory.specs.declared.memory.Seen.{Seen}
use Rattle.bmx_memory.specs.Contents.{Contents}
use Rattle.bmx_memory.specs.Shown.{shown}

-- no object was forgotten: no header is dead
abbrev pub NoneDied : List Block → Type 0
NoneDied blocks = (a : ℕ) (h : Header) → header_at blocks a ≡ Some h → h.state ≢ Dead

-- a register's word is that of a value
abbrev pub IsHeldIn : List Block → Word → Type 0
IsHeldIn blocks w = IsField blocks (kind_number w.kind) w.word

-- what a replica is known to be: it keeps what a replica and a heap keep, and headers share no word
pub record IsSound (r : Holding) : Type 0 where
  pub replica : IsReplica r.slots r.heap.blocks
  pub heap : IsHeap r.heap
  pub apart : AreApart r.heap.blocks

-- what a memory keeps: a sound replica in which no header is dead, and 16 registers, each word there that of
-- a value
pub record Keeps (m : Contents) : Type 0 where
  pub sound : IsSound m.replica
  pub standing : NoneDied m.replica.heap.blocks
  pub few : length m.registers ≡ 16
  pub held : (r : ℕ) (w : Word) → slice_get m.registers r ≡ Some w → IsHeldIn m.replica.heap.blocks w

-- a register refers to an object, which stands where it says
pub record IsSeen (m : Contents) (s : Seen) : Type 0 where
  pub stands : StandsAt m.replica s.object
  pub refers : (shown m).register s.register ≡ val.Ref s.object.header.name
