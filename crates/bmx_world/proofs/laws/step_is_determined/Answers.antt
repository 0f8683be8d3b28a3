use Rattle.bmx_protocol.proofs.Replayed.{step_is_determined}
use Rattle.bmx_world.proofs.laws.step_is_determined.Goals as goal

pub returns : goal.returns
returns c = step_is_determined
