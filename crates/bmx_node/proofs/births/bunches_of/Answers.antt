use Rattle.std.proofs.Common.{arith, ◌≡◌, ◌+◌}
use Rattle.std.specs.Prelude.{take, max}
use Rattle.bmx_types.specs.Openings.{bunches_of}
use Rattle.bmx_node.proofs.Placing.{bunches_more, item_got}
use Rattle.bmx_node.proofs.births.bunches_of.Goals as goal

pub loop-birth-preserved : goal.loop-birth-preserved
loop-birth-preserved c =
    let more : bunches_of (take (c.loop-birth.birth-index + 1) c.args.births.now) ≡ max (bunches_of (take c.loop-birth.birth-index c.args.births.now)) (c.birth-item.result.bunch + 1) =
    bunches_more c.args.births.now c.loop-birth.birth-index c.birth-item.result (item_got c.args.births.now c.loop-birth.birth-index c.birth-item.result c.loop-birth-test.true c.birth-item.is) in
    grind (arith, c.max-bunches.ensures, c.get.ensures.value, c.loop-birth.invariant, more)
