use Rattle.std.proofs.Common.{ap, slice_index}
use Rattle.bmx_graph.specs.Graphs.{state_of}
use Rattle.bmx_graph.proofs.graphs.Graph.made.Goals as goal

pub returns : goal.returns
unfolding state_of
returns c = ap (slice_index c.args.self.now.made) c.get.ensures.value
