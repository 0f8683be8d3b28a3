use Rattle.bmx_collection.proofs.Telling.{runs_tell}
use Rattle.bmx_collection.proofs.laws.runs_tell.Goals as goal

pub returns : goal.returns
returns c = runs_tell
