use Rattle.bmx_token_model.proofs.Stated.{each_owes_one_answer}
use Rattle.bmx_token_model.proofs.laws.each_owes_one_answer.Goals as goal

pub returns : goal.returns
returns c = each_owes_one_answer
