-- What holds of the world after each legal history of a store, collectors among it.
use Rattle.std.specs.Prelude.{◌≡◌, ℕ, ◌<◌, ◌↔◌, true, false, List, ◌∷◌, Contains}
use Rattle.bmx_types.specs.Openings.{IsOpening}
use Rattle.bmx_types.specs.declared.commands.Command.TheVariants as command
use Rattle.bmx_types.specs.declared.commands.Refusal.TheVariants as refusal
use Rattle.bmx_msg.specs.declared.letters.Letter.{Letter}
use Rattle.bmx_protocol.specs.declared.inputs.Input.TheVariants as input
use Rattle.bmx_protocol.specs.declared.inputs.NodeAnswer.TheVariants as answer
use Rattle.bmx_protocol.specs.declared.inputs.Done.{Done}
use Rattle.bmx_protocol.specs.Nodes.{Setting}
use Rattle.bmx_protocol.specs.Places.{is_full}
use Rattle.bmx_protocol.specs.Rules.{infos}
use Rattle.bmx_protocol.specs.Strays.{some_clash}
use Rattle.bmx_protocol.specs.Steps.{Node, IsStep}
use Rattle.bmx_protocol.specs.Worlds.{World, IsSomewhere, IsCurrent, IsReached, EachHasOneOwner, WritesExclude, EachHasChain, EachParentAnswers}
use Rattle.bmx_collection.specs.Steps.{LinkedNode, first_linked, Stray, IsLinkedStep}
use Rattle.bmx_collection.specs.Histories.{Deed, Plain, Collector, LinkedEvent, plain_events, ReplaysLinked, IsLegalLinked, IsWithoutCollector}
use Rattle.bmx_collection.specs.Worlds.{LinkedWorld, linked_world_of, ReadyIsWanted, NoTableEndsARecord, NoTableHarms}
use Rattle.bmx_collection.specs.Cases.ALateTable as late_table
use Rattle.bmx_protocol.specs.Cases.{one_bunch}
use Rattle.bmx_store_laws.specs.Laws.{IsSeated, EachReaderIsListed, WantsStand, IsCounted}
use Rattle.bmx_places.specs.Ledger.{HasLedger}
use Rattle.bmx_places.specs.Laws.{ShapesAgree, PlacesAgree}
use Rattle.bmx_coherence.specs.Graphs.{graph_after}
use Rattle.bmx_coherence.specs.Laws.{IsGraphRun, HasGraph}
use Rattle.bmx_coherence.specs.Copies.{AreCurrent, TargetsAreKnown}
use Rattle.bmx_coherence.specs.Waits.{WantsAreWaitedFor}
use Rattle.bmx_coherence.specs.Stuck.{StuckNamesHolders}

-- what holds of the world after each legal history of a store
abbrev pub AlwaysStored : (Setting → List LinkedEvent → LinkedWorld → Type 0) → Type 0
AlwaysStored Holds =
    (st : Setting) (history : List LinkedEvent) (nodes : ℕ → LinkedNode) → IsOpening st.nodes st.limit st.births → IsLegalLinked st history →
    ReplaysLinked st (first_linked st) history nodes → Holds st history (linked_world_of nodes history)

-- a token that is ready is wanted
abbrev pub ReadyIsAlwaysWanted : Type 0
ReadyIsAlwaysWanted = AlwaysStored (λ st history w. ReadyIsWanted w)

-- no table that was made so far, however late and often it comes, ends a record that is needed
abbrev pub RecordsAreSafe : Type 0
RecordsAreSafe = AlwaysStored (λ st history w. NoTableEndsARecord w)

-- nor a scion whose stub stands
abbrev pub TablesDoNoHarm : Type 0
TablesDoNoHarm = AlwaysStored (λ st history w. NoTableHarms w)

-- ## the laws of stores

-- what the laws of stores say of each name, whatever its nodes did: it has one owner, and its ownership one seat; a
-- write excludes, and readers are listed; wants stand once; parents answer, and lead to the owner; its maker counted it
pub record IsOneStore (st : Setting) (w : World) : Type 0 where
  pub owners : EachHasOneOwner st w
  pub seats : (x : ℕ) → IsSomewhere st w x → IsSeated st w x
  pub writers : WritesExclude st w
  pub readers : EachReaderIsListed w
  pub wants : (x : ℕ) → WantsStand w x
  pub parents : EachParentAnswers st w
  pub chains : EachHasChain st w
  pub names : (x : ℕ) → IsSomewhere st w x → IsCounted st w x

-- they hold where there are collectors too
abbrev pub LawsOfStoresStand : Type 0
LawsOfStoresStand = AlwaysStored (λ st history w. IsOneStore st w.world)

-- and what copies and letters in flight refer to is known, at the node that has the copy and at the letter's sender,
-- which has a record of what the letter gives
abbrev pub TargetsStand : Type 0
TargetsStand = AlwaysStored (λ st history w. TargetsAreKnown st w.world)

-- a new object is refused as full exactly where its node has made all its segments and the open one of the bunch lacks
-- room: in each step, whatever was collected before
abbrev pub FullIsAtTheLimit : Type 0
FullIsAtTheLimit =
    (st : Setting) (me stamp register bunch size : ℕ) (n n' : LinkedNode) (d : Done) →
    IsLinkedStep st me n stamp (input.Do (command.New register bunch size)) d n' →
    (d.answer ≡ answer.Refused refusal.Full) ↔ (is_full st.limit n.places bunch size ≡ true)

-- ## stray letters and tables

-- what a node did is answered that its letter is stray, and that its table is
abbrev pub IsStrayLetter : Deed → Type 0
IsStrayLetter (Plain i d) = d.answer ≡ answer.Stray
IsStrayLetter (Collector i d) = ⊥

abbrev pub IsStrayTable : Deed → Type 0
IsStrayTable (Plain i d) = ⊥
IsStrayTable (Collector i d) = d.answer ≡ Stray

-- no event of a history is
abbrev pub NoLetterIsStray : List LinkedEvent → Type 0
NoLetterIsStray history = (e : LinkedEvent) → Contains history e → IsStrayLetter e.deed → ⊥

abbrev pub NoTableIsStray : List LinkedEvent → Type 0
NoTableIsStray history = (e : LinkedEvent) → Contains history e → IsStrayTable e.deed → ⊥

-- no table that is taken is stray
abbrev pub NoTableStrays : Type 0
NoTableStrays = AlwaysStored (λ st history w. NoTableIsStray history)

-- ## the laws of places and of the graph, so far where no collector acts

-- what holds after each legal history of a store in which no collector acts. The laws under this name are those whose
-- proof with collectors is to come: then the premise goes from here, and AlwaysStored stands in its place
abbrev pub AlwaysWithoutCollector : (Setting → List LinkedEvent → LinkedWorld → Type 0) → Type 0
AlwaysWithoutCollector Holds = AlwaysStored (λ st history w. IsWithoutCollector history → Holds st history w)

-- what a letter in flight tells of places clashes with nothing that its receiver knows
abbrev pub NoneClashes : World → Type 0
NoneClashes w =
    (from me : ℕ) (l : Letter) → Contains (w.channel from me) l → some_clash me from (w.state me).known (w.places me) (infos l.msg) ≡ false

-- a step that takes the next letter from a node of the store, at any stamp, takes it: it isn't stray
abbrev pub EachNextIsTaken : Setting → World → Type 0
EachNextIsTaken st w =
    (from me stamp : ℕ) (l : Letter) (rest : List Letter) (done : Done) (after : Node) → from < st.nodes → me < st.nodes →
    w.channel from me ≡ l ∷ rest → IsStep st me (record { state = w.state me; places = w.places me }) stamp (input.Take from l) done after →
    done.answer ≡ answer.Nil

-- the laws of places: blocks of words are kept; a name has one bunch and size, and with its number of moves one address,
-- and nobody has heard of more moves than its owner has; no Info clashes, the next letter of a pair is taken, none is stray
pub record PlacesStand (st : Setting) (history : List LinkedEvent) (w : LinkedWorld) : Type 0 where
  pub blocks : HasLedger st w.world
  pub shapes : ShapesAgree w.world
  pub places : PlacesAgree w.world
  pub clashes : NoneClashes w.world
  pub next : EachNextIsTaken st w.world
  pub letters : NoLetterIsStray history

-- the laws of the graph: the commands of all nodes with their answers are a run of it, nodes have it, and each object that
-- is reached in it has its current copy at its owner; wants are waited for, and stuck nodes name holders
pub record GraphStands (st : Setting) (history : List LinkedEvent) (w : LinkedWorld) : Type 0 where
  pub run : IsGraphRun st (plain_events history)
  pub graph : HasGraph w.world (graph_after st (plain_events history))
  pub current : (x : ℕ) → IsReached st (graph_after st (plain_events history)) x → IsCurrent w.world (graph_after st (plain_events history)) x
  pub waits : WantsAreWaitedFor st w.world (plain_events history)
  pub stuck : StuckNamesHolders st w.world (plain_events history)

abbrev pub PlacesStandWithoutCollector : Type 0
PlacesStandWithoutCollector = AlwaysWithoutCollector PlacesStand

abbrev pub GraphStandsWithoutCollector : Type 0
GraphStandsWithoutCollector = AlwaysWithoutCollector GraphStands

-- where no collector acts each name that a node has made has its current copy, too, reached or not. A collection ends
-- that, so this law is to keep the premise, and has it by itself
abbrev pub MadeStayCurrentWithoutCollector : Type 0
MadeStayCurrentWithoutCollector =
    AlwaysStored (λ st history w. IsWithoutCollector history → AreCurrent st w.world (graph_after st (plain_events history)))

-- ## a history to which the laws apply

-- the laws speak of something: a store of two nodes opens with one bunch, and a run of it worked by hand, in which a
-- table comes late, is legal
abbrev pub LawsApply : Type 0
LawsApply =
    IsOpening (one_bunch 2).nodes (one_bunch 2).limit (one_bunch 2).births × IsLegalLinked (one_bunch 2) late_table.at_the_end.history
