use Rattle.bmx_collection.proofs.Steps.{collector_step_is_determined}
use Rattle.bmx_collection.proofs.laws.collector_step_is_determined.Goals as goal

pub returns : goal.returns
returns c = collector_step_is_determined
