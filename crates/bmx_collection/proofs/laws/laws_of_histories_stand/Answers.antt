use Rattle.bmx_collection.proofs.Counted.{laws_of_histories_stand}
use Rattle.bmx_collection.proofs.laws.laws_of_histories_stand.Goals as goal

pub returns : goal.returns
returns c = laws_of_histories_stand
