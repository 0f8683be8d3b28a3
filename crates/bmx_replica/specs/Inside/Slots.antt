-- A directory of names.
use Rattle.std.specs.Prelude.{ℕ, List, Option}
use Rattle.bmx_types.specs.Updates.{Puts}
use Rattle.bmx_replica.specs.Slots.{slot_of}
use Rattle.bmx_replica.specs.declared.directory.Slot.{Slot}

-- what contracts see of a directory: each name with its slot, and how many more names it can take
-- without memory
pub record Listing : Type 0 where
  pub slots : List (ℕ × Slot)
  pub spare : ℕ

-- the name has that slot from now on, or none, and each other has what it had
abbrev pub PutsSlot : List (ℕ × Slot) → List (ℕ × Slot) → ℕ → Option Slot → Type 0
PutsSlot old new name o = Puts (slot_of old) (slot_of new) name o
