use Rattle.bmx_store_laws.proofs.Lifted.{write_excludes}
use Rattle.bmx_world.proofs.laws.write_excludes.Goals as goal

pub returns : goal.returns
returns c = write_excludes
