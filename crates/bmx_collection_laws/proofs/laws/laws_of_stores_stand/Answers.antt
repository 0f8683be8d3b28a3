use Rattle.bmx_collection_laws.proofs.Stored.{laws_of_stores_stand}
use Rattle.bmx_collection_laws.proofs.laws.laws_of_stores_stand.Goals as goal

pub returns : goal.returns
returns c = laws_of_stores_stand
