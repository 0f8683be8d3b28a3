use Rattle.bmx_coherence.proofs.Stated.{nodes_have_the_graph}
use Rattle.bmx_world.proofs.laws.nodes_have_the_graph.Goals as goal

pub returns : goal.returns
returns c = nodes_have_the_graph
