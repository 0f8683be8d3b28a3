use Rattle.bmx_collection_laws.proofs.Lifted.{tables_do_no_harm}
use Rattle.bmx_collection_laws.proofs.laws.tables_do_no_harm.Goals as goal

pub returns : goal.returns
returns c = tables_do_no_harm
