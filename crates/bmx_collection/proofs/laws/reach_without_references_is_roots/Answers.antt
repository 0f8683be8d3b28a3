use Rattle.bmx_collection.proofs.Reaching.{reach_without_references_is_roots}
use Rattle.bmx_collection.proofs.laws.reach_without_references_is_roots.Goals as goal

pub returns : goal.returns
returns c = reach_without_references_is_roots
