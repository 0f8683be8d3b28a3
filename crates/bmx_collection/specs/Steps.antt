-- A step of a collector at a node: what its rule is told, what it answers, and what it makes of the node. It is to
-- stand beside the steps of commands, serves and letters, as four inputs more.
use Rattle.std.specs.Prelude.{◌≡◌, ℕ, ◌+◌, nat_lt, max, true, if◌then◌else◌, List, [], length, filter, Option, Some, None}
use Rattle.bmx_types.specs.declared.commands.Refusal.{Refusal}
use Rattle.bmx_types.specs.declared.commands.Refusal.TheVariants as refusal
use Rattle.bmx_table.specs.declared.tables.Table.{Table}
use Rattle.bmx_owner.specs.declared.entering.Record.{Record}
use Rattle.bmx_owner.specs.Records.{IsInOrder, find_record, is_listed}
use Rattle.bmx_clean.specs.declared.cleaner.Applied.{Applied}
use Rattle.bmx_clean.specs.Cleaning.{applied}
use Rattle.bmx_protocol.specs.declared.inputs.Input.{Input}
use Rattle.bmx_protocol.specs.declared.inputs.Done.{Done}
use Rattle.bmx_protocol.specs.Nodes.{Setting, NodeState, AreAll, first_state}
use Rattle.bmx_protocol.specs.Places.{Places, first_places}
use Rattle.bmx_protocol.specs.Changes.{with_step}
use Rattle.bmx_protocol.specs.Strays.{too_large}
use Rattle.bmx_protocol.specs.Steps.{Node, IsStep}
use Rattle.bmx_collection.specs.Links.{Links, no_links, links_after}
use Rattle.bmx_collection.specs.Reach.{is_owned, is_child, IsReachedHere}
use Rattle.bmx_collection.specs.Forgetting.{goes, forgotten, links_kept}
use Rattle.bmx_collection.specs.ToSpaces.{is_too_large, places_collected}
use Rattle.bmx_collection.specs.Sweeps.{IsDropped, swept}
use Rattle.bmx_collection.specs.Tables.{table_of, with_table, is_stray_table, state_cleaned, links_cleaned}

-- a node with its links: its state by names, its stubs and scions, and where objects lie
pub record LinkedNode : Type 0 where
  pub state : NodeState
  pub links : Links
  pub places : Places

-- the node without its links
abbrev pub unlinked : LinkedNode → Node
unlinked n = record { state = n.state; places = n.places }

-- a node as the store opens
abbrev pub first_linked : Setting → ℕ → LinkedNode
first_linked st me = record { state = first_state st me; links = no_links; places = first_places st me }

-- ## inputs and answers

-- what a collector is to do: to collect a bunch, to drop segments, to make a table of a bunch for a node, to take one
pub data CollectorInput : Type 0 where
  Collect : (bunch : ℕ) → CollectorInput
  Sweep : CollectorInput
  MakeTable : (bunch to : ℕ) → CollectorInput
  TakeTable : (table : Table) → CollectorInput

-- what a step of it answers: how many entries were forgotten, segments dropped, or what became of a table; that it
-- is done; that segments are lacking; that the table doesn't fit
pub data CollectorAnswer : Type 0 where
  Forgot : (entries : ℕ) → CollectorAnswer
  Swept : (segments : ℕ) → CollectorAnswer
  Cleaned : (what : Applied) → CollectorAnswer
  Nil : CollectorAnswer
  Refused : (why : Refusal) → CollectorAnswer
  Stray : CollectorAnswer

-- the outcome of such a step: its answer, and the table that it made. It issues no letter
pub record CollectorDone : Type 0 where
  pub answer : CollectorAnswer
  pub table : Option Table

-- ## what the rule is told

-- lists of a node that no function of its state gives: of a collection the names that it keeps, those that the node
-- owns and those that go; of a table the names that it lists; of the taking of one the node's records; of a sweep the
-- segments that go
pub record CollectorTold : Type 0 where
  pub kept : List ℕ
  pub owned : List ℕ
  pub gone : List ℕ
  pub children : List ℕ
  pub records : List Record
  pub dropped : List ℕ

-- a collection keeps the names that are reached, and no others
abbrev pub IsToKeep : LinkedNode → CollectorInput → ℕ → Type 0
IsToKeep n (Collect bunch) name = IsReachedHere n.state n.links bunch name
IsToKeep n Sweep name = ⊥
IsToKeep n (MakeTable bunch to) name = ⊥
IsToKeep n (TakeTable table) name = ⊥

-- these of its bunch the node owns
abbrev pub IsToFit : LinkedNode → CollectorInput → ℕ → Type 0
IsToFit n (Collect bunch) name = is_owned n.state bunch name ≡ true
IsToFit n Sweep name = ⊥
IsToFit n (MakeTable bunch to) name = ⊥
IsToFit n (TakeTable table) name = ⊥

-- these go, where those are kept
abbrev pub IsToGo : LinkedNode → List ℕ → CollectorInput → ℕ → Type 0
IsToGo n kept (Collect bunch) name = goes n.state bunch kept name ≡ true
IsToGo n kept Sweep name = ⊥
IsToGo n kept (MakeTable bunch to) name = ⊥
IsToGo n kept (TakeTable table) name = ⊥

-- these a table lists
abbrev pub IsToList : LinkedNode → CollectorInput → ℕ → Type 0
IsToList n (Collect bunch) name = ⊥
IsToList n Sweep name = ⊥
IsToList n (MakeTable bunch to) name = is_child n.state bunch to name ≡ true
IsToList n (TakeTable table) name = ⊥

-- these segments a sweep drops
abbrev pub IsToDrop : ℕ → LinkedNode → CollectorInput → ℕ → Type 0
IsToDrop me n (Collect bunch) first = ⊥
IsToDrop me n Sweep first = IsDropped me n.places first
IsToDrop me n (MakeTable bunch to) first = ⊥
IsToDrop me n (TakeTable table) first = ⊥

-- these are all records of the node, in order
pub record AreRecords (s : NodeState) (records : List Record) : Type 0 where
  pub in_order : IsInOrder records
  pub all : (name node : ℕ) → find_record records name node ≡ s.entering name node

-- the records that the taking of a table is told
abbrev pub IsToldRecords : LinkedNode → CollectorInput → List Record → Type 0
IsToldRecords n (Collect bunch) records = records ≡ []
IsToldRecords n Sweep records = records ≡ []
IsToldRecords n (MakeTable bunch to) records = records ≡ []
IsToldRecords n (TakeTable table) records = AreRecords n.state records

-- a node tells this of an input
pub record IsCollectorTold (me : ℕ) (n : LinkedNode) (i : CollectorInput) (t : CollectorTold) : Type 0 where
  pub kept : AreAll (IsToKeep n i) t.kept
  pub owned : AreAll (IsToFit n i) t.owned
  pub gone : AreAll (IsToGo n t.kept i) t.gone
  pub children : AreAll (IsToList n i) t.children
  pub records : IsToldRecords n i t.records
  pub dropped : AreAll (IsToDrop me n i) t.dropped

-- ## the rule of an input

-- what a rule makes of a node: its outcome, and what the node is then, with the step not counted yet
pub record CollectorReaction : Type 0 where
  pub answer : CollectorAnswer
  pub table : Option Table
  pub node : LinkedNode

-- the node is as before
abbrev pub unchanged : LinkedNode → CollectorAnswer → CollectorReaction
unchanged n a = record { answer = a; table = None; node = n }

-- a collection: what isn't kept is forgotten, and what is owned and kept moves
abbrev pub collected : ℕ → LinkedNode → CollectorTold → ℕ → LinkedNode
collected me n t bunch = record {
  state = forgotten bunch t.kept n.state;
  links = links_kept bunch t.kept n.state n.links;
  places = places_collected me n.state n.places bunch t.owned t.gone (filter (is_listed t.kept) t.owned);
}

abbrev pub collect_rule : Setting → ℕ → LinkedNode → CollectorTold → ℕ → CollectorReaction
collect_rule st me n t bunch =
    if is_too_large st.limit n.state n.places t.owned then unchanged n (Refused refusal.Full)
    else record { answer = Forgot (length t.gone); table = None; node = collected me n t bunch }

abbrev pub sweep_rule : LinkedNode → CollectorTold → CollectorReaction
sweep_rule n t = record { answer = Swept (length t.dropped); table = None; node = record n { places = swept t.dropped n.places } }

abbrev pub make_table_rule : ℕ → LinkedNode → CollectorTold → ℕ → ℕ → ℕ → CollectorReaction
make_table_rule me n t stamp bunch to = record {
  answer = Nil;
  table = Some (table_of me n.state n.links stamp bunch to t.children);
  node = record n { links = with_table to n.links };
}

abbrev pub take_table_rule : Setting → ℕ → LinkedNode → CollectorTold → Table → CollectorReaction
take_table_rule st me n t table =
    if is_stray_table st me table then unchanged n Stray
    else record {
      answer = Cleaned (applied (n.state.taken table.from) table t.records n.links.scions);
      table = None;
      node = record n { state = state_cleaned table n.state; links = links_cleaned table n.state n.links };
    }

-- by the input, at a stamp
abbrev pub collector_rule : Setting → ℕ → LinkedNode → CollectorTold → ℕ → CollectorInput → CollectorReaction
collector_rule st me n t stamp (Collect bunch) = collect_rule st me n t bunch
collector_rule st me n t stamp Sweep = sweep_rule n t
collector_rule st me n t stamp (MakeTable bunch to) = make_table_rule me n t stamp bunch to
collector_rule st me n t stamp (TakeTable table) = take_table_rule st me n t table

-- ## the step

-- the step is counted
abbrev pub counted : LinkedNode → LinkedNode
counted n = record n { state = with_step n.state }

-- what a step answers
abbrev pub outcome_of : CollectorReaction → CollectorDone
outcome_of r = record { answer = r.answer; table = r.table }

-- a collector's step at a stamp: from a node, by an input, to an outcome and a node
pub record IsCollectorStep (st : Setting) (me : ℕ) (old : LinkedNode) (stamp : ℕ) (i : CollectorInput) (done : CollectorDone) (new : LinkedNode) : Type 0 where
  pub told : CollectorTold
  pub is_told : IsCollectorTold me old i told
  pub outcome : done ≡ outcome_of (collector_rule st me old told stamp i)
  pub node : new ≡ counted (collector_rule st me old told stamp i).node

-- a step of another kind at a node with links: its state and places go by their rules, and what it stores or is
-- granted gets its pairs
pub record IsLinkedStep (st : Setting) (me : ℕ) (old : LinkedNode) (stamp : ℕ) (i : Input) (done : Done) (new : LinkedNode) : Type 0 where
  pub step : IsStep st me (unlinked old) stamp i done (unlinked new)
  pub links : new.links ≡ links_after me old.state old.links i done.answer

-- ## stamps

-- the stamp that an input of a collector brings: a table's, unless it is too large
abbrev pub stamp_brought : CollectorInput → ℕ
stamp_brought (Collect bunch) = 0
stamp_brought Sweep = 0
stamp_brought (MakeTable bunch to) = 0
stamp_brought (TakeTable table) = if nat_lt table.stamp too_large then table.stamp else 0

-- a node's stamp after such a step
abbrev pub stamp_after_it : ℕ → CollectorInput → ℕ
stamp_after_it stamp i = max stamp (stamp_brought i) + 1
