use Rattle.bmx_coherence.proofs.Stated.{stuck_nodes_name_holders}
use Rattle.bmx_world.proofs.laws.stuck_nodes_name_holders.Goals as goal

pub returns : goal.returns
returns c = stuck_nodes_name_holders
