use Rattle.bmx_image.proofs.OneReading.{image_has_one_spelling}
use Rattle.bmx_image.proofs.laws.image_has_one_spelling.Goals as goal

pub returns : goal.returns
returns c = image_has_one_spelling
