use Rattle.bmx_collection.proofs.Without.{without_collectors_alike}
use Rattle.bmx_collection.proofs.laws.without_collectors_alike.Goals as goal

pub returns : goal.returns
returns c = without_collectors_alike
