-- Histories with collectors: which tables were made and taken, and when a history is legal. Letters are those of its
-- events without a collector, as the rules of many nodes have them.
use Rattle.std.specs.Prelude.{◌≡◌, ℕ, ◌+◌, ◌^◌, ◌<◌, ◌≤◌, ◌==◌, ◌&&◌, Bool, false, List, [], ◌∷◌, ◌++◌, length, filter_map, count_by, Contains, Option, Some, None, IfSome}
use Rattle.std.specs.Option.{option_map_or}
use Rattle.bmx_types.specs.Openings.{bunches_of}
use Rattle.bmx_types.specs.Updates.{put}
use Rattle.bmx_table.specs.declared.tables.Table.{Table}
use Rattle.bmx_protocol.specs.declared.inputs.Input.{Input}
use Rattle.bmx_protocol.specs.declared.inputs.Done.{Done}
use Rattle.bmx_protocol.specs.declared.events.Event.{Event}
use Rattle.bmx_protocol.specs.Nodes.{Setting}
use Rattle.bmx_protocol.specs.Steps.{stamp_after}
use Rattle.bmx_protocol.specs.Histories.{IsInputOf, IsNext, IsLater, IsAgain, waits_with}
use Rattle.bmx_collection.specs.Steps.{LinkedNode, first_linked, CollectorInput, Collect, Sweep, MakeTable, TakeTable, CollectorDone, IsCollectorStep, IsLinkedStep, stamp_after_it}

-- the inputs of a node: those that it has without a collector, a command, a serve or a letter; and the four of its
-- collector, to collect a bunch, to drop segments, to make a table and to take one
pub data NodeInput : Type 0 where
  WithoutCollector : Input → NodeInput
  ByCollector : CollectorInput → NodeInput

-- what a node does in an event: such an input, with its outcome
pub data Deed : Type 0 where
  Plain : (input : Input) (done : Done) → Deed
  Collector : (input : CollectorInput) (done : CollectorDone) → Deed

-- the input of what a node does
abbrev pub input_of : Deed → NodeInput
input_of (Plain i d) = WithoutCollector i
input_of (Collector i d) = ByCollector i

-- a node's stamp after an input
abbrev pub stamp_after_input : ℕ → NodeInput → ℕ
stamp_after_input stamp (WithoutCollector i) = stamp_after stamp i
stamp_after_input stamp (ByCollector i) = stamp_after_it stamp i

-- one step of one node
pub record LinkedEvent : Type 0 where
  pub node : ℕ
  pub stamp : ℕ
  pub deed : Deed

-- ## letters and tables

-- the event without a collector, None of a collector's
abbrev pub plain_event : LinkedEvent → Option Event
plain_event e = by (e.deed)
  where
    by : Deed → Option Event
    by (Plain i d) = Some (record { node = e.node; stamp = e.stamp; input = i; done = d })
    by (Collector i d) = None

-- the events without a collector, in order
abbrev pub plain_events : List LinkedEvent → List Event
plain_events history = filter_map plain_event history

-- an event without a collector, among those with them
abbrev pub plainly : Event → LinkedEvent
plainly e = record { node = e.node; stamp = e.stamp; deed = Plain e.input e.done }

-- the table that an event made, and the one that it took
abbrev pub table_made : Deed → Option Table
table_made (Plain i d) = None
table_made (Collector i d) = d.table

abbrev pub table_taken : Deed → Option Table
table_taken (Plain i d) = None
table_taken (Collector (Collect bunch) d) = None
table_taken (Collector Sweep d) = None
table_taken (Collector (MakeTable bunch to) d) = None
table_taken (Collector (TakeTable table) d) = Some table

-- the tables that events made, in order
abbrev pub tables_made : List LinkedEvent → List Table
tables_made history = filter_map (λ e. table_made e.deed) history

-- two are one table: a maker numbers its tables for a node
abbrev pub is_same_table : Table → Table → Bool
is_same_table t u = t.from == u.from && t.to == u.to && t.number == u.number

-- how often a table was taken in events
abbrev pub times_taken : Table → List LinkedEvent → ℕ
times_taken t history = count_by (λ e. option_map_or (is_same_table t) (table_taken e.deed) false) history

-- ## what is said of one event, with those before it

-- nodes and bunches that an input of a collector names are of the store
abbrev pub IsCollectorInputOf : Setting → CollectorInput → Type 0
IsCollectorInputOf st (Collect bunch) = bunch < bunches_of st.births
IsCollectorInputOf st Sweep = Unit {0}
IsCollectorInputOf st (MakeTable bunch to) = (bunch < bunches_of st.births) × (to < st.nodes)
IsCollectorInputOf st (TakeTable table) = table.from < st.nodes

-- a table that is taken was made before, for this node, has a smaller stamp, and was taken at most twice before
pub record IsTableOf (past : List LinkedEvent) (node stamp : ℕ) (t : Table) : Type 0 where
  pub made : Contains (tables_made past) t
  pub here : t.to ≡ node
  pub later : t.stamp < stamp
  pub few : times_taken t past < 3

-- an event without a collector may come after those before it: what it names is of the store, a letter is the next of
-- its pair and has a smaller stamp, a node that waits gives its command again
pub record FitsPlain (st : Setting) (past : List LinkedEvent) (node stamp : ℕ) (i : Input) : Type 0 where
  pub an_input : IsInputOf st i
  pub later : IsLater i stamp
  pub next : IsNext (plain_events past) node i
  pub again : IsAgain (waits_with node None (plain_events past)) i

-- and one of a collector: what it names is of the store, and a table that it takes may be taken
pub record FitsCollector (st : Setting) (past : List LinkedEvent) (node stamp : ℕ) (d : Deed) (i : CollectorInput) : Type 0 where
  pub an_input : IsCollectorInputOf st i
  pub table : IfSome (table_taken d) (IsTableOf past node stamp)

abbrev pub FitsDeed : Setting → List LinkedEvent → ℕ → ℕ → Deed → Type 0
FitsDeed st past node stamp (Plain i d) = FitsPlain st past node stamp i
FitsDeed st past node stamp (Collector i d) = FitsCollector st past node stamp (Collector i d) i

-- an event may come after those before it, but for what its step makes of the node
pub record FitsLinked (st : Setting) (past : List LinkedEvent) (e : LinkedEvent) : Type 0 where
  pub a_node : e.node < st.nodes
  pub few : count_by (λ f. f.node == e.node) past + 1 < 2 ^ 55
  pub rising : (f : LinkedEvent) → Contains past f → f.node ≡ e.node → f.stamp < e.stamp
  pub early : e.stamp ≤ length past + 1
  pub deed : FitsDeed st past e.node e.stamp e.deed

-- ## legal histories

-- a step of a node at a stamp, by whatever input: from a node to an outcome and a node
abbrev pub IsDeed : Setting → ℕ → LinkedNode → ℕ → Deed → LinkedNode → Type 0
IsDeed st me old stamp (Plain i d) new = IsLinkedStep st me old stamp i d new
IsDeed st me old stamp (Collector i d) new = IsCollectorStep st me old stamp i d new

-- events are steps of nodes one after another, with their outcomes, and lead to nodes
abbrev pub ReplaysLinked : Setting → (ℕ → LinkedNode) → List LinkedEvent → (ℕ → LinkedNode) → Type 0
ReplaysLinked st nodes [] last = nodes ≡ last
ReplaysLinked st nodes (e ∷ events) last =
    (n : LinkedNode) × IsDeed st e.node (nodes e.node) e.stamp e.deed n × ReplaysLinked st (put nodes e.node n) events last

-- a history with collectors is legal: each event fits those before it, and all are steps from the opening
pub record IsLegalLinked (st : Setting) (history : List LinkedEvent) : Type 0 where
  pub fits : (past rest : List LinkedEvent) (e : LinkedEvent) → past ++ e ∷ rest ≡ history → FitsLinked st past e
  pub steps : (nodes : ℕ → LinkedNode) × ReplaysLinked st (first_linked st) history nodes

-- no event is a collector's: what is proved of places and of the graph without collectors is said of these histories
-- alone, under this name
abbrev pub IsWithoutCollector : List LinkedEvent → Type 0
IsWithoutCollector history = length (plain_events history) ≡ length history
