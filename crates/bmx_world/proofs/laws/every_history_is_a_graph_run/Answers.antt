use Rattle.bmx_coherence.proofs.Stated.{every_history_is_a_graph_run}
use Rattle.bmx_world.proofs.laws.every_history_is_a_graph_run.Goals as goal

pub returns : goal.returns
returns c = every_history_is_a_graph_run
