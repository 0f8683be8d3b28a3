-- A sweep under way.
use Rattle.std.specs.Prelude.{◌≡◌, ℕ, ◌+◌, ◌<◌, ◌≤◌, if◌then◌else◌, List, length, slice_index_or, None, IsTrue}
use Rattle.bmx_segment.specs.Blocks.{Block}
use Rattle.bmx_segment.specs.Stores.{key_of, block_at}
use Rattle.bmx_segment.specs.Heaps.{Heap}
use Rattle.bmx_segment.specs.Inside.Numbers.{AreDifferent}
use Rattle.bmx_space.specs.Sweeps.{has_number, IsUnneededKey}

-- some unneeded segments are swept, so many, and those that are mapped are needed from a place on
pub record IsSwept (old now : Heap) (place count : ℕ) : Type 0 where
  pub keys : List ℕ
  pub different : AreDifferent keys
  pub unneeded : (key : ℕ) → IsTrue (has_number keys key) → IsUnneededKey old key
  pub blocks : (key : ℕ) → block_at now.blocks key ≡ (if has_number keys key then None else block_at old.blocks key)
  pub rest : now ≡ record old { blocks = now.blocks }
  pub many : count ≡ length keys
  pub within : place ≤ length now.blocks
  pub passed : (k : ℕ) (d : Block) → place ≤ k → k < length now.blocks → IsUnneededKey now (key_of (slice_index_or now.blocks k d)) → ⊥

-- where a sweep has come to the place behind this one it has come to this one, with so many more
abbrev pub SweepsOn : Heap → Heap → ℕ → ℕ → Type 0
SweepsOn old new place more = (start : Heap) (before : ℕ) → IsSwept start old (place + 1) before → IsSwept start new place (before + more)
