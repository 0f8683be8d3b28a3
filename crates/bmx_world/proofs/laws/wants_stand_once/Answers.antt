use Rattle.bmx_store_laws.proofs.Lifted.{wants_stand_once}
use Rattle.bmx_world.proofs.laws.wants_stand_once.Goals as goal

pub returns : goal.returns
returns c = wants_stand_once
