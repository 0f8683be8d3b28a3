use Rattle.bmx_image.proofs.OneReading.{reading_is_determined}
use Rattle.bmx_image.proofs.laws.reading_is_determined.Goals as goal

pub returns : goal.returns
returns c = reading_is_determined
