use Rattle.std.proofs.Common.{◌≡◌}
use Rattle.std.specs.Prelude.{take}
use Rattle.bmx_types.specs.Openings.{bunches_of}
use Rattle.bmx_node.proofs.births.bunches_of.Given as goal

abbrev pub invariant-loop-birth : goal.invariant-loop-birth
invariant-loop-birth l = l.bunches ≡ bunches_of (take l.birth-index l.births)
