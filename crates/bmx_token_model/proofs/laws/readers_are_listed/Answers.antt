use Rattle.bmx_token_model.proofs.Readers.{readers_are_listed}
use Rattle.bmx_token_model.proofs.laws.readers_are_listed.Goals as goal

pub returns : goal.returns
returns c = readers_are_listed
