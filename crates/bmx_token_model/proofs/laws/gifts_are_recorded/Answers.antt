use Rattle.bmx_token_model.proofs.Stated.{gifts_are_recorded}
use Rattle.bmx_token_model.proofs.laws.gifts_are_recorded.Goals as goal

pub returns : goal.returns
returns c = gifts_are_recorded
