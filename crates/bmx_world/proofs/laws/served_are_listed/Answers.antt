use Rattle.bmx_protocol.proofs.Served.{served_are_listed}
use Rattle.bmx_world.proofs.laws.served_are_listed.Goals as goal

pub returns : goal.returns
returns c = served_are_listed
