use Rattle.bmx_places.proofs.Always.{next_is_taken}
use Rattle.bmx_world.proofs.laws.next_is_taken.Goals as goal

pub returns : goal.returns
returns c = next_is_taken
