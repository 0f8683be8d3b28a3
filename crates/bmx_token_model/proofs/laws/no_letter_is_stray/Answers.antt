use Rattle.bmx_token_model.proofs.Stated.{no_letter_is_stray}
use Rattle.bmx_token_model.proofs.laws.no_letter_is_stray.Goals as goal

pub returns : goal.returns
returns c = no_letter_is_stray
