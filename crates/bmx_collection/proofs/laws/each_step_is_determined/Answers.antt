use Rattle.bmx_collection.proofs.Replayed.{each_step_is_determined}
use Rattle.bmx_collection.proofs.laws.each_step_is_determined.Goals as goal

pub returns : goal.returns
returns c = each_step_is_determined
