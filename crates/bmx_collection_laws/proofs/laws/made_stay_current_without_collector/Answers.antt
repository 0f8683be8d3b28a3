use Rattle.bmx_collection_laws.proofs.Without.{made_stay_current_without_collector}
use Rattle.bmx_collection_laws.proofs.laws.made_stay_current_without_collector.Goals as goal

pub returns : goal.returns
returns c = made_stay_current_without_collector
