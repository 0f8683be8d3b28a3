use Rattle.bmx_collection_laws.proofs.Without.{graph_stands_without_collector}
use Rattle.bmx_collection_laws.proofs.laws.graph_stands_without_collector.Goals as goal

pub returns : goal.returns
returns c = graph_stands_without_collector
