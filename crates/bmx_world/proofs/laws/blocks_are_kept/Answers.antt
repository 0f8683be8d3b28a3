use Rattle.bmx_places.proofs.Always.{blocks_are_kept}
use Rattle.bmx_world.proofs.laws.blocks_are_kept.Goals as goal

pub returns : goal.returns
returns c = blocks_are_kept
