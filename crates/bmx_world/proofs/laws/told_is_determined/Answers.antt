use Rattle.bmx_protocol.proofs.Replayed.{told_is_determined}
use Rattle.bmx_world.proofs.laws.told_is_determined.Goals as goal

pub returns : goal.returns
returns c = told_is_determined
