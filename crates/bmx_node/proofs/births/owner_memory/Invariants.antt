use Rattle.std.proofs.Common.{◌≡◌}
use Rattle.bmx_memory.specs.Shown.{shown}
use Rattle.bmx_node.specs.Inside.Births.{blank_until}
use Rattle.bmx_node.proofs.Placing.{written_until}
use Rattle.bmx_node.proofs.births.owner_memory.Given as goal

abbrev pub invariant-loop-bunch : goal.invariant-loop-bunch
invariant-loop-bunch l = record {
  shown : shown l.memory ≡ blank_until l.opening.limit l.opening.births l.bunch;
  births : l.births ≡ l.opening.births;
}

abbrev pub invariant-loop-birth : goal.invariant-loop-birth
invariant-loop-birth l = record {
  shown : shown l.memory ≡ written_until l.opening.limit l.opening.births l.birth-index;
  births : l.births ≡ l.opening.births;
}
