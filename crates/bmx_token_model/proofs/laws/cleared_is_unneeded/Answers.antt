use Rattle.bmx_token_model.proofs.Stated.{cleared_is_unneeded}
use Rattle.bmx_token_model.proofs.laws.cleared_is_unneeded.Goals as goal

pub returns : goal.returns
returns c = cleared_is_unneeded
