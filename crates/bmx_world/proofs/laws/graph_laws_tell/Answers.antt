use Rattle.bmx_coherence.proofs.CaseFacts.{laws_tell}
use Rattle.bmx_world.proofs.laws.graph_laws_tell.Goals as goal

pub returns : goal.returns
returns c = laws_tell
