use Rattle.bmx_protocol.proofs.Replayed.{replay_is_determined}
use Rattle.bmx_world.proofs.laws.replay_is_determined.Goals as goal

pub returns : goal.returns
returns c = replay_is_determined
