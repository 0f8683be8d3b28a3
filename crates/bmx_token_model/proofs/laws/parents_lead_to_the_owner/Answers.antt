use Rattle.bmx_token_model.proofs.Stated.{parents_lead}
use Rattle.bmx_token_model.proofs.laws.parents_lead_to_the_owner.Goals as goal

pub returns : goal.returns
returns c = parents_lead
