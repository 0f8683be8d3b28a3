-- What is to hold of every legal history of a store with collectors besides, and isn't proved yet: what holds of places
-- and of the graph that programs see where no collector acts.
use Rattle.std.specs.Prelude.{ℕ}
use Rattle.bmx_protocol.specs.Worlds.{IsCurrent, IsReached}
use Rattle.bmx_collection.specs.Histories.{plain_events}
use Rattle.bmx_places.specs.Laws.{PlacesAgree}
use Rattle.bmx_coherence.specs.Graphs.{graph_after}
use Rattle.bmx_coherence.specs.Laws.{IsGraphRun}
use Rattle.bmx_collection_laws.specs.Laws.{AlwaysStored, PlacesStand, GraphStands, NoLetterIsStray, NoTableIsStray}

-- the laws of places and of the graph stand, whatever was collected: the laws of histories without a collector, with that
-- premise taken out
abbrev pub PlacesAlwaysStand : Type 0
PlacesAlwaysStand = AlwaysStored PlacesStand

abbrev pub GraphAlwaysStands : Type 0
GraphAlwaysStands = AlwaysStored GraphStands

-- ## and what that says, one by one

-- the commands of all nodes, each with its answer, are a run of the plain graph
abbrev pub EveryHistoryStaysAGraphRun : Type 0
EveryHistoryStaysAGraphRun = AlwaysStored (λ st history w. IsGraphRun st (plain_events history))

-- each object that is reached in the graph has its current copy at its owner
abbrev pub ReachedStayCurrent : Type 0
ReachedStayCurrent =
    AlwaysStored (λ st history w. (x : ℕ) → IsReached st (graph_after st (plain_events history)) x → IsCurrent w.world (graph_after st (plain_events history)) x)

-- a name with its number of moves has one address, and nobody has heard of more moves than its owner has
abbrev pub PlacesStayOne : Type 0
PlacesStayOne = AlwaysStored (λ st history w. PlacesAgree w.world)

-- nothing is stray: no letter, and no table (of which it is proved)
abbrev pub NothingIsStray : Type 0
NothingIsStray = AlwaysStored (λ st history w. NoLetterIsStray history × NoTableIsStray history)
