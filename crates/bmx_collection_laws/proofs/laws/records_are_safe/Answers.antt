use Rattle.bmx_collection_laws.proofs.Lifted.{records_are_safe}
use Rattle.bmx_collection_laws.proofs.laws.records_are_safe.Goals as goal

pub returns : goal.returns
returns c = records_are_safe
