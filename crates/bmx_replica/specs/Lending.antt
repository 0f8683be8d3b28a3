-- What a replica lends.
use Rattle.std.specs.Prelude.{ℕ, List}
use Rattle.bmx_replica.specs.declared.directory.Slot.{Slot}
use Rattle.bmx_replica.specs.declared.replica.Lent.{Lent}

-- the names with their slots, of the replica that lent them
abbrev pub slots_in : Lent → List (ℕ × Slot)
slots_in l = l.directory.slots

-- how many more names it could take without memory
abbrev pub room_in : Lent → ℕ
room_in l = l.directory.spare
