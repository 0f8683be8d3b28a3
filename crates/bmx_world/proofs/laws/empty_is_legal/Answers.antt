use Rattle.bmx_protocol.proofs.Prefixes.{empty_is_legal}
use Rattle.bmx_world.proofs.laws.empty_is_legal.Goals as goal

pub returns : goal.returns
returns c = empty_is_legal
