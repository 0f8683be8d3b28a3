use Rattle.std.proofs.Common.{◌≡◌}
use Rattle.bmx_memory.specs.Shown.{shown}
use Rattle.bmx_node.specs.Inside.Births.{with_blanks, no_object}
use Rattle.bmx_node.proofs.Placing.{until}
use Rattle.bmx_node.proofs.births.place_bunch.Given as goal

abbrev pub invariant-loop-birth : goal.invariant-loop-birth
invariant-loop-birth l = shown l.memory ≡ with_blanks (no_object 0 (shown l.fn.memory).limit) (until l.births l.bunch l.birth-index)
