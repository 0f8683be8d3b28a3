use Rattle.bmx_token_model.proofs.Stated.{who_is_asked_answers}
use Rattle.bmx_token_model.proofs.laws.who_is_asked_answers.Goals as goal

pub returns : goal.returns
returns c = who_is_asked_answers
