use Rattle.bmx_collection_laws.proofs.Tabled.{no_table_strays}
use Rattle.bmx_collection_laws.proofs.laws.no_table_strays.Goals as goal

pub returns : goal.returns
returns c = no_table_strays
