use Rattle.std.proofs.Common.{◌≡◌, ℕ, take, map}
use Rattle.bmx_types.specs.declared.addresses.Place.{Place}
use Rattle.bmx_protocol.specs.Nodes.{NodeState}
use Rattle.bmx_protocol.specs.Rules.{told_field}
use Rattle.bmx_memory.specs.Shown.{shown, Sees}
use Rattle.bmx_memory.proofs.Told.{copied}
use Rattle.bmx_memory.proofs.memory.Memory.fields.Given as goal

-- the fields so far are told
abbrev pub invariant-loop-i : goal.invariant-loop-i
invariant-loop-i l = (s : NodeState) (lies : ℕ → Place) → Sees (shown l.fn.self) s lies → l.fields.items ≡ map (told_field s lies) (take l.i (copied (shown l.fn.self) l.fn.name))
