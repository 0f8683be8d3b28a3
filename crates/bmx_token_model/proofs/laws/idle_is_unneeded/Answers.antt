use Rattle.bmx_token_model.proofs.Stated.{idle_is_unneeded}
use Rattle.bmx_token_model.proofs.laws.idle_is_unneeded.Goals as goal

pub returns : goal.returns
returns c = idle_is_unneeded
