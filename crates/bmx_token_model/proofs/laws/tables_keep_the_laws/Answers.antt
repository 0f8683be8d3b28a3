use Rattle.bmx_token_model.proofs.Stated.{tables_keep_the_laws}
use Rattle.bmx_token_model.proofs.laws.tables_keep_the_laws.Goals as goal

pub returns : goal.returns
returns c = tables_keep_the_laws
