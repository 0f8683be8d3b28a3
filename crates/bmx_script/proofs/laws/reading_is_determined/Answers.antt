use Rattle.bmx_script.proofs.OneReading.{reading_is_determined}
use Rattle.bmx_script.proofs.laws.reading_is_determined.Goals as goal

pub returns : goal.returns
returns c = reading_is_determined
