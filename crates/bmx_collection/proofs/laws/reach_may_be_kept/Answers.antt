use Rattle.bmx_collection.proofs.Reaching.{reach_may_be_kept}
use Rattle.bmx_collection.proofs.laws.reach_may_be_kept.Goals as goal

pub returns : goal.returns
returns c = reach_may_be_kept
