use Rattle.bmx_protocol.proofs.Counts.{issued_is_counted}
use Rattle.bmx_world.proofs.laws.issued_is_counted.Goals as goal

pub returns : goal.returns
returns c = issued_is_counted
