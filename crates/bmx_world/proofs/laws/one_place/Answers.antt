use Rattle.bmx_places.proofs.Always.{one_place}
use Rattle.bmx_world.proofs.laws.one_place.Goals as goal

pub returns : goal.returns
returns c = one_place
