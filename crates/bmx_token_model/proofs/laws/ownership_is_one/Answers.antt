use Rattle.bmx_token_model.proofs.Owners.{ownership_is_one}
use Rattle.bmx_token_model.proofs.laws.ownership_is_one.Goals as goal

pub returns : goal.returns
returns c = ownership_is_one
