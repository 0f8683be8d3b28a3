use Rattle.bmx_collection.proofs.Tokens.{collector_touches_no_token}
use Rattle.bmx_collection.proofs.laws.collector_touches_no_token.Goals as goal

pub returns : goal.returns
returns c = collector_touches_no_token
