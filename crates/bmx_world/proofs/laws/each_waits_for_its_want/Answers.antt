use Rattle.bmx_coherence.proofs.Stated.{each_waits_for_its_want}
use Rattle.bmx_world.proofs.laws.each_waits_for_its_want.Goals as goal

pub returns : goal.returns
returns c = each_waits_for_its_want
