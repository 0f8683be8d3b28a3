use Rattle.bmx_collection.proofs.Replayed.{linked_replay_is_determined}
use Rattle.bmx_collection.proofs.laws.linked_replay_is_determined.Goals as goal

pub returns : goal.returns
returns c = linked_replay_is_determined
