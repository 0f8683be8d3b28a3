use Rattle.bmx_image.proofs.OneReading.{image_is_read_again}
use Rattle.bmx_image.proofs.laws.image_is_read_again.Goals as goal

pub returns : goal.returns
returns c = image_is_read_again
