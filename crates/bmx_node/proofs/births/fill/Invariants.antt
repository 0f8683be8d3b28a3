use Rattle.std.proofs.Common.{◌≡◌}
use Rattle.bmx_memory.specs.Shown.{shown}
use Rattle.bmx_node.proofs.Placing.{filled}
use Rattle.bmx_node.proofs.births.fill.Given as goal

abbrev pub invariant-loop-i : goal.invariant-loop-i
invariant-loop-i l = shown l.memory ≡ filled (shown l.fn.memory) l.birth l.i
