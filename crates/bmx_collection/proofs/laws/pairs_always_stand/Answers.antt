use Rattle.bmx_collection.proofs.Standing.{pairs_always_stand}
use Rattle.bmx_collection.proofs.laws.pairs_always_stand.Goals as goal

pub returns : goal.returns
returns c = pairs_always_stand
