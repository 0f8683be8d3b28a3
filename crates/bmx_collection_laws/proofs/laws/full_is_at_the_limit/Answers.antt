use Rattle.bmx_collection_laws.proofs.Without.{full_is_at_the_limit}
use Rattle.bmx_collection_laws.proofs.laws.full_is_at_the_limit.Goals as goal

pub returns : goal.returns
returns c = full_is_at_the_limit
