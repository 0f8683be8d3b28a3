use Rattle.bmx_collection.proofs.Taking.{second_taking_removes_nothing}
use Rattle.bmx_collection.proofs.laws.second_taking_removes_nothing.Goals as goal

pub returns : goal.returns
returns c = second_taking_removes_nothing
