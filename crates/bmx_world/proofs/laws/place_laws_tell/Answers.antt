use Rattle.bmx_places.proofs.Applied.{laws_tell}
use Rattle.bmx_world.proofs.laws.place_laws_tell.Goals as goal

pub returns : goal.returns
returns c = laws_tell
