use Rattle.bmx_places.proofs.Always.{no_info_clashes}
use Rattle.bmx_world.proofs.laws.no_info_clashes.Goals as goal

pub returns : goal.returns
returns c = no_info_clashes
