use Rattle.bmx_coherence.proofs.Stated.{targets_stand}
use Rattle.bmx_world.proofs.laws.targets_stand.Goals as goal

pub returns : goal.returns
returns c = targets_stand
