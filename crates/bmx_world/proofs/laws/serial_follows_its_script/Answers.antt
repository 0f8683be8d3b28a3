use Rattle.bmx_turns.proofs.Stated.{serial_follows_its_script}
use Rattle.bmx_world.proofs.laws.serial_follows_its_script.Goals as goal

pub returns : goal.returns
returns c = serial_follows_its_script
