use Rattle.bmx_store_laws.proofs.Lifted.{names_are_counted}
use Rattle.bmx_world.proofs.laws.names_are_counted.Goals as goal

pub returns : goal.returns
returns c = names_are_counted
