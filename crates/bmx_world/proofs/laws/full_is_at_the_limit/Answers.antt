use Rattle.bmx_coherence.proofs.Stated.{full_is_at_the_limit}
use Rattle.bmx_world.proofs.laws.full_is_at_the_limit.Goals as goal

pub returns : goal.returns
returns c = full_is_at_the_limit
