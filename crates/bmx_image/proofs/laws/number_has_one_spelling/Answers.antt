use Rattle.bmx_image.proofs.Numbers.{number_has_one_spelling}
use Rattle.bmx_image.proofs.laws.number_has_one_spelling.Goals as goal

pub returns : goal.returns
returns c = number_has_one_spelling
