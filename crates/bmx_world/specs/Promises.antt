-- What a user of the store came for, as it holds after a history: the nodes together are one graph of shared objects,
-- and tokens keep programs apart.
use Rattle.std.specs.Prelude.{◌≢◌, ℕ, List, Contains}
use Rattle.bmx_types.specs.Openings.{IsOpening}
use Rattle.bmx_protocol.specs.declared.inputs.NodeAnswer.TheVariants as answer
use Rattle.bmx_protocol.specs.declared.events.Event.{Event}
use Rattle.bmx_protocol.specs.Nodes.{Setting}
use Rattle.bmx_protocol.specs.Steps.{Node}
use Rattle.bmx_protocol.specs.Histories.{AreAfter, IsLegal}
use Rattle.bmx_protocol.specs.Worlds.{world_of, WritesExclude, EachHasOneOwner}
use Rattle.bmx_store_laws.specs.Laws.{WantsStand}
use Rattle.bmx_coherence.specs.Graphs.{graph_after}
use Rattle.bmx_coherence.specs.Waits.{WantsAreWaitedFor}
use Rattle.bmx_coherence.specs.Copies.{AreCurrent}
use Rattle.bmx_coherence.specs.Stuck.{StuckNamesHolders}
use Rattle.bmx_coherence.specs.Laws.{IsGraphRun, HasGraph}

-- the nodes after a history are one store of shared objects
pub record IsOneStore (st : Setting) (history : List Event) (nodes : ℕ → Node) : Type 0 where
  -- each command is answered as the one graph answers it
  pub graph : IsGraphRun st history
  -- what the nodes have is the graph's
  pub nodes_have : HasGraph (world_of nodes history) (graph_after st history)
  -- each object that was made or is reached has its current copy at its owner, or in the letter that gives it away
  pub current : AreCurrent st (world_of nodes history) (graph_after st history)
  -- each object has one owner
  pub owned : EachHasOneOwner st (world_of nodes history)
  -- nobody holds what another node holds for writing
  pub exclude : WritesExclude st (world_of nodes history)
  -- each want is asked for, queued or granted once, and nothing else is
  pub wants : (x : ℕ) → WantsStand (world_of nodes history) x
  -- each want is of the command that its node waits with
  pub waits : WantsAreWaitedFor st (world_of nodes history) history
  -- where nothing can go on, what is waited for is held by another node
  pub stuck : StuckNamesHolders st (world_of nodes history) history
  -- no letter came that its taker couldn't use
  pub no_stray : (e : Event) → Contains history e → e.done.answer ≢ answer.Stray

-- the nodes after every legal history are one store, whatever the interleaving
abbrev pub EveryHistoryKeepsOneStore : Type 0
EveryHistoryKeepsOneStore =
    (st : Setting) (history : List Event) (nodes : ℕ → Node) →
    IsOpening st.nodes st.limit st.births → IsLegal st history → AreAfter st history nodes → IsOneStore st history nodes
