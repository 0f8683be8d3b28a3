use Rattle.bmx_protocol.proofs.Prefixes.{prefix_is_legal}
use Rattle.bmx_world.proofs.laws.prefix_is_legal.Goals as goal

pub returns : goal.returns
returns c = prefix_is_legal
