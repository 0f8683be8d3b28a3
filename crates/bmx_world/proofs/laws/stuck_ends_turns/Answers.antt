use Rattle.bmx_turns.proofs.Stated.{stuck_ends_turns}
use Rattle.bmx_world.proofs.laws.stuck_ends_turns.Goals as goal

pub returns : goal.returns
returns c = stuck_ends_turns
