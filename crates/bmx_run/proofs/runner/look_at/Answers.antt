use Rattle.std.proofs.Common.{arith, ap, ◌∙◌, Some}
use Rattle.std.proofs.lemmas.Option.{slice_get-get_or}
use Rattle.bmx_run.proofs.Finished.{mean_more}
use Rattle.bmx_run.proofs.runner.look_at.Goals as goal

pub loop-node-preserved : goal.loop-node-preserved
loop-node-preserved c =
    mean_more c.args.nodes.now c.loop-node.node-index c.node-item.result c.loop-node-test.true c.node-item.is c.memory-memory.ensures.whole c.loop-node.invariant

pub returns : goal.returns
returns c = λ d there. c.loop-node.invariant there.0 d (omega (arith, c.loop-node-test.false, there.1)) (slice_get-get_or c.args.nodes.now there.0 d there.1 ∙ ap Some there.2)
