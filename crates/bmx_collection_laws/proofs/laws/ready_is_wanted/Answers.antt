use Rattle.bmx_collection_laws.proofs.Lifted.{ready_is_wanted}
use Rattle.bmx_collection_laws.proofs.laws.ready_is_wanted.Goals as goal

pub returns : goal.returns
returns c = ready_is_wanted
