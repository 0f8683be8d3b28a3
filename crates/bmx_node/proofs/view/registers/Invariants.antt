use Rattle.std.proofs.Common.{◌≡◌, ℕ, ◌<◌, length, slice_get, Some}
use Rattle.bmx_memory.specs.Shown.{shown}
use Rattle.bmx_node.proofs.view.registers.Given as goal

-- the registers so far
abbrev pub invariant-loop-register : goal.invariant-loop-register
invariant-loop-register l =
    (length l.registers ≡ l.register) × ((r : ℕ) → r < l.register → slice_get l.registers r ≡ Some ((shown l.memory).register r))
