use Rattle.std.proofs.Common.{◌∙◌}
use Rattle.bmx_graph.specs.Graphs.{state_of}
use Rattle.bmx_graph.proofs.graphs.GraphSight.hold.Goals as goal

pub returns : goal.returns
unfolding state_of
returns c = c.copied.ensures ∙ c.get.ensures.value
