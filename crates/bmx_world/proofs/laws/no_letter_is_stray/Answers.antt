use Rattle.bmx_places.proofs.Always.{no_letter_is_stray}
use Rattle.bmx_world.proofs.laws.no_letter_is_stray.Goals as goal

pub returns : goal.returns
returns c = no_letter_is_stray
