use Rattle.std.proofs.Common.{ap, take, ◌∙◌}
use Rattle.bmx_node.proofs.Firsts.{anchors_first}
use Rattle.bmx_node.proofs.others.anchors.Goals as goal

pub returns-clause-anchors : goal.returns-clause-anchors
returns-clause-anchors c = ap (take c.args.bunches) c.as_slice.ensures ∙ anchors_first c.args.opening.now c.args.bunches c.requires
