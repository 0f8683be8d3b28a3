use Rattle.bmx_collection.proofs.Tokens.{collection_keeps_its_reach}
use Rattle.bmx_collection.proofs.laws.collection_keeps_its_reach.Goals as goal

pub returns : goal.returns
returns c = collection_keeps_its_reach
