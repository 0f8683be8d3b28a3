use Rattle.bmx_collection.proofs.Pairing.{stubs_are_answered}
use Rattle.bmx_collection.proofs.laws.stubs_are_answered.Goals as goal

pub returns : goal.returns
returns c = stubs_are_answered
