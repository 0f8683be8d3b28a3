use Rattle.bmx_coherence.proofs.Stated.{copies_are_current}
use Rattle.bmx_world.proofs.laws.copies_are_current.Goals as goal

pub returns : goal.returns
returns c = copies_are_current
