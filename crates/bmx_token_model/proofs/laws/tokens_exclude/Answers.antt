use Rattle.bmx_token_model.proofs.Shared.{tokens_exclude}
use Rattle.bmx_token_model.proofs.laws.tokens_exclude.Goals as goal

pub returns : goal.returns
returns c = tokens_exclude
