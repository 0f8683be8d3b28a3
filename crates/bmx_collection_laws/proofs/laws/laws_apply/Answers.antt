use Rattle.bmx_collection_laws.proofs.Targets.{laws_apply}
use Rattle.bmx_collection_laws.proofs.laws.laws_apply.Goals as goal

pub returns : goal.returns
returns c = laws_apply
