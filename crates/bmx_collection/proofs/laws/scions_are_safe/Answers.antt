use Rattle.bmx_collection.proofs.Pairing.{scions_are_safe}
use Rattle.bmx_collection.proofs.laws.scions_are_safe.Goals as goal

pub returns : goal.returns
returns c = scions_are_safe
