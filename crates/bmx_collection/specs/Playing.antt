-- Runs of nodes with collectors, to be closed by computing: what nodes do, and at each step the stamp and the outcome.
-- What a step of a collector is told is found among the names, nodes and segments below 8: the runs have no others.
use Rattle.std.specs.Prelude.{◌≡◌, ℕ, ◌==◌, if◌then◌else◌, List, [], ◌∷◌, ◌++◌, map, slice_get, Option, Some, None}
use Rattle.std.specs.List.{fold}
use Rattle.bmx_types.specs.Updates.{put}
use Rattle.bmx_table.specs.declared.tables.Table.{Table}
use Rattle.bmx_protocol.specs.declared.inputs.Input.{Input}
use Rattle.bmx_protocol.specs.declared.inputs.NodeAnswer.{NodeAnswer}
use Rattle.bmx_protocol.specs.declared.inputs.Sending.{Sending}
use Rattle.bmx_protocol.specs.Nodes.{Setting}
use Rattle.bmx_protocol.specs.Rules.{Reaction}
use Rattle.bmx_protocol.specs.Steps.{rule, done_of, closed}
use Rattle.bmx_protocol.specs.Cases.{Move, mover, input_of, told_at, places_after}
use Rattle.bmx_collection.specs.Links.{links_after}
use Rattle.bmx_collection.specs.Steps.{LinkedNode, unlinked, first_linked, CollectorInput, TakeTable, CollectorAnswer, CollectorReaction, collector_rule, outcome_of, counted}
use Rattle.bmx_collection.specs.Histories.{WithoutCollector, ByCollector, Deed, Plain, Collector, stamp_after_input, LinkedEvent, plain_events, tables_made}
use Rattle.bmx_collection.specs.Finding.{found}

-- what comes next: a move without a collector, what a node's collector does, or a node takes the table that was made
-- after so many others
pub data LinkedMove : Type 0 where
  Of : Move → LinkedMove
  By : (node : ℕ) → CollectorInput → LinkedMove
  Takes : (node made : ℕ) → LinkedMove

-- what is said of a step: its stamp, its answer, and its letters or the table that it made
pub data Said : Type 0 where
  NodeSays : (stamp : ℕ) (a : NodeAnswer) (letters : List Sending) → Said
  CollectorSays : (stamp : ℕ) (a : CollectorAnswer) (table : Option Table) → Said

-- nodes, and what has happened
pub record LinkedPlay : Type 0 where
  pub nodes : ℕ → LinkedNode
  pub history : List LinkedEvent

-- the stamp of a node after events
abbrev pub last_stamp : ℕ → List LinkedEvent → ℕ
last_stamp n history = fold (λ stamp e. if e.node == n then e.stamp else stamp) 0 history

-- what is said of an event
abbrev pub said_of : LinkedEvent → Said
said_of e = by (e.deed)
  where
    by : Deed → Said
    by (Plain i d) = NodeSays e.stamp d.answer d.letters
    by (Collector i d) = CollectorSays e.stamp d.answer d.table

-- a node after an input that was answered so
abbrev pub linked_after : ℕ → LinkedNode → ℕ → Input → Reaction → LinkedNode
linked_after me n stamp i o = record {
  state = closed stamp n.state o;
  links = links_after me n.state n.links i o.answer;
  places = places_after me (unlinked n) i o.answer;
}

-- one step more without a collector
abbrev pub with_reaction : LinkedPlay → ℕ → ℕ → Input → Reaction → LinkedPlay
with_reaction p me stamp i o = record {
  nodes = put p.nodes me (linked_after me (p.nodes me) stamp i o);
  history = p.history ++ record { node = me; stamp = stamp; deed = Plain i (done_of stamp (p.nodes me).state o) } ∷ [];
}

abbrev pub with_move : Setting → LinkedPlay → ℕ → Input → LinkedPlay
with_move st p me i =
    with_reaction p me (stamp_after_input (last_stamp me p.history) (WithoutCollector i)) i
    (rule st me (p.nodes me).state (told_at st me (unlinked (p.nodes me)) i) i)

-- one step more of a collector
abbrev pub with_reaction_of : LinkedPlay → ℕ → ℕ → CollectorInput → CollectorReaction → LinkedPlay
with_reaction_of p me stamp i r = record {
  nodes = put p.nodes me (counted r.node);
  history = p.history ++ record { node = me; stamp = stamp; deed = Collector i (outcome_of r) } ∷ [];
}

abbrev pub with_collector : Setting → LinkedPlay → ℕ → CollectorInput → LinkedPlay
with_collector st p me i =
    let stamp : ℕ = stamp_after_input (last_stamp me p.history) (ByCollector i) in
    with_reaction_of p me stamp i (collector_rule st me (p.nodes me) (found 8 me (p.nodes me) i) stamp i)

-- a table is taken, where it was made
abbrev pub with_taken : Setting → LinkedPlay → ℕ → Option Table → LinkedPlay
with_taken st p me None = p
with_taken st p me (Some t) = with_collector st p me (TakeTable t)

-- by what comes next
abbrev pub with_linked_move : Setting → LinkedPlay → LinkedMove → LinkedPlay
with_linked_move st p (Of m) = with_move st p (mover m) (input_of (plain_events p.history) m)
with_linked_move st p (By me i) = with_collector st p me i
with_linked_move st p (Takes me made) = with_taken st p me (slice_get (tables_made p.history) made)

-- from the opening
abbrev pub played_linked : Setting → List LinkedMove → LinkedPlay
played_linked st moves = fold (with_linked_move st) (record { nodes = first_linked st; history = [] }) moves

-- a move, and what is to be said of its step
pub record LinkedLine : Type 0 where
  pub move : LinkedMove
  pub said : Said

abbrev pub by : LinkedMove → Said → LinkedLine
by a s = record { move = a; said = s }

-- of the moves of the lines it is said so
abbrev pub IsSaidOf : Setting → List LinkedLine → Type 0
IsSaidOf st lines = map said_of (played_linked st (map (λ l. l.move) lines)).history ≡ map (λ l. l.said) lines
