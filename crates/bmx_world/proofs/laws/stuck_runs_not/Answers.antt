use Rattle.bmx_turns.proofs.Stated.{stuck_runs_not}
use Rattle.bmx_world.proofs.laws.stuck_runs_not.Goals as goal

pub returns : goal.returns
returns c = stuck_runs_not
