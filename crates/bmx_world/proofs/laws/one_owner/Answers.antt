use Rattle.bmx_store_laws.proofs.Lifted.{one_owner}
use Rattle.bmx_world.proofs.laws.one_owner.Goals as goal

pub returns : goal.returns
returns c = one_owner
