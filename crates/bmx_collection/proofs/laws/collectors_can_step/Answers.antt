use Rattle.bmx_collection.proofs.Finite.{collectors_can_step}
use Rattle.bmx_collection.proofs.laws.collectors_can_step.Goals as goal

pub returns : goal.returns
returns c = collectors_can_step
