use Rattle.bmx_collection.proofs.Steps.{collector_refusal_keeps}
use Rattle.bmx_collection.proofs.laws.collector_refusal_keeps.Goals as goal

pub returns : goal.returns
returns c = collector_refusal_keeps
