use Rattle.std.proofs.Common.{◌≡◌}
use Rattle.bmx_world.specs.Scripts.{anchors}
use Rattle.bmx_world.proofs.openings.anchors.Given as goal

abbrev pub invariant-loop-bunch : goal.invariant-loop-bunch
invariant-loop-bunch l = l.births ≡ anchors l.bunch
