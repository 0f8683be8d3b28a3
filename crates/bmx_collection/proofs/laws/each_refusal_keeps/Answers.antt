use Rattle.bmx_collection.proofs.Replayed.{each_refusal_keeps}
use Rattle.bmx_collection.proofs.laws.each_refusal_keeps.Goals as goal

pub returns : goal.returns
returns c = each_refusal_keeps
