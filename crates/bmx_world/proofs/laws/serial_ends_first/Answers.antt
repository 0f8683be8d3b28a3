use Rattle.bmx_turns.proofs.Stated.{serial_ends_first}
use Rattle.bmx_world.proofs.laws.serial_ends_first.Goals as goal

pub returns : goal.returns
returns c = serial_ends_first
