use Rattle.bmx_protocol.proofs.Refusals.{refusal_keeps}
use Rattle.bmx_world.proofs.laws.refusal_keeps.Goals as goal

pub returns : goal.returns
returns c = refusal_keeps
