use Rattle.bmx_store_laws.proofs.Lifted.{readers_are_listed_always}
use Rattle.bmx_world.proofs.laws.readers_are_listed.Goals as goal

pub returns : goal.returns
returns c = readers_are_listed_always
