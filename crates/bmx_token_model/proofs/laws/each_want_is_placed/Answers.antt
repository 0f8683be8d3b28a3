use Rattle.bmx_token_model.proofs.Stated.{each_want_is_placed}
use Rattle.bmx_token_model.proofs.laws.each_want_is_placed.Goals as goal

pub returns : goal.returns
returns c = each_want_is_placed
