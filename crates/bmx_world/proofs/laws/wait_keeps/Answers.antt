use Rattle.bmx_protocol.proofs.Waits.{wait_keeps}
use Rattle.bmx_world.proofs.laws.wait_keeps.Goals as goal

pub returns : goal.returns
returns c = wait_keeps
