-- A directory of names, as a finite map.
use Rattle.std.specs.Prelude.{ℕ, ◌==◌, if◌then◌else◌, List, [], ◌∷◌, Option, Some, None}
use Rattle.std.specs.Option.{option_map}
use Rattle.bmx_replica.specs.declared.directory.Slot.{Slot}

-- the slot of a name
abbrev pub slot_of : List (ℕ × Slot) → ℕ → Option Slot
slot_of [] name = None
slot_of (e ∷ es) name = if name == e.0 then Some e.1 else slot_of es name

-- where the object of a name lies
abbrev pub address_of : List (ℕ × Slot) → ℕ → Option ℕ
address_of slots name = option_map (λ (s : Slot). s.address) (slot_of slots name)
