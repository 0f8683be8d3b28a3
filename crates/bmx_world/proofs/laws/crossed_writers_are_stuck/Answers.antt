use Rattle.bmx_turns.proofs.Worked.{crossed_writers_are_stuck}
use Rattle.bmx_world.proofs.laws.crossed_writers_are_stuck.Goals as goal

pub returns : goal.returns
returns c = crossed_writers_are_stuck
