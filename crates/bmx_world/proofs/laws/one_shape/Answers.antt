use Rattle.bmx_places.proofs.Always.{one_shape}
use Rattle.bmx_world.proofs.laws.one_shape.Goals as goal

pub returns : goal.returns
returns c = one_shape
