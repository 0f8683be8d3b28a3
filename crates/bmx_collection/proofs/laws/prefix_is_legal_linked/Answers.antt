use Rattle.bmx_collection.proofs.Replayed.{prefix_is_legal_linked}
use Rattle.bmx_collection.proofs.laws.prefix_is_legal_linked.Goals as goal

pub returns : goal.returns
returns c = prefix_is_legal_linked
