use Rattle.bmx_collection_laws.proofs.Without.{places_stand_without_collector}
use Rattle.bmx_collection_laws.proofs.laws.places_stand_without_collector.Goals as goal

pub returns : goal.returns
returns c = places_stand_without_collector
