use Rattle.bmx_token_model.proofs.Stated.{nobody_asks_itself}
use Rattle.bmx_token_model.proofs.laws.nobody_asks_itself.Goals as goal

pub returns : goal.returns
returns c = nobody_asks_itself
