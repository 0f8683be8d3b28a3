-- Which segments a sweep drops.
use Rattle.std.specs.Prelude.{◌≡◌, ℕ, ◌<◌, ◌≤◌, ◌↔◌, Bool, ◌==◌, if◌then◌else◌, List, length, None, IsTrue}
use Rattle.std.specs.List.{list_any}
use Rattle.std.specs.List.Sorted.{IsStrictlyIncreasing}
use Rattle.bmx_segment.specs.Stores.{segment_key, block_at, live_of, IsMapped}
use Rattle.bmx_segment.specs.Heaps.{Heap, IsOpen}

-- the segment is mapped, isn't open, and has no live header
pub record IsUnneeded (h : Heap) (home number : ℕ) : Type 0 where
  pub mapped : IsMapped h.blocks home number
  pub closed : ¬ IsOpen h home number
  pub dead : live_of (block_at h.blocks (segment_key home number)) ≡ 0

-- one of the numbers
abbrev pub has_number : List ℕ → ℕ → Bool
has_number numbers n = list_any (λ m. m == n) numbers

-- the key is that of an unneeded segment: one that an address can name
pub record IsUnneededKey (h : Heap) (key : ℕ) : Type 0 where
  pub home : ℕ
  pub number : ℕ
  pub is : key ≡ segment_key home number
  pub few_homes : home < 8
  pub some : 0 < number
  pub few : number ≤ 65535
  pub unneeded : IsUnneeded h home number

-- the unneeded segments, of which there are so many, are mapped no more; each other one has the block that it
-- had, and all else stays
pub record Sweeps (old new : Heap) (count : ℕ) : Type 0 where
  pub keys : List ℕ
  pub rising : IsStrictlyIncreasing keys
  pub exact : (key : ℕ) → IsTrue (has_number keys key) ↔ IsUnneededKey old key
  pub blocks : (key : ℕ) → block_at new.blocks key ≡ (if has_number keys key then None else block_at old.blocks key)
  pub rest : new ≡ record old { blocks = new.blocks }
  pub many : count ≡ length keys
