use Rattle.bmx_collection.proofs.Found.{found_is_told}
use Rattle.bmx_collection.proofs.laws.found_is_told.Goals as goal

pub returns : goal.returns
returns c = found_is_told
