-- The serial turn with collectors: the actions that are enabled in a phase, in their order, and which one is picked.
use Rattle.std.specs.Prelude.{◌≡◌, ℕ, zero, suc, ◌%◌, ◌<◌, ◌==◌, ◌&&◌, ◌⊎◌, List, [], ◌∷◌, ◌++◌, map, length, filter, slice_get, Option, Some, None}
use Rattle.bmx_table.specs.declared.tables.Table.{Table}
use Rattle.bmx_protocol.specs.Nodes.{Setting, NodeState, AreAll}
use Rattle.bmx_protocol.specs.Histories.{waits_with}
use Rattle.bmx_protocol.specs.Runs.Programs.{program_in, completed, CanServe}
use Rattle.bmx_protocol.specs.Runs.Turns.{Action, ServesName, actor, input_of, command_action, letter_actions, word}
use Rattle.bmx_collection.specs.Steps.{LinkedNode, first_linked, CollectorInput, TakeTable}
use Rattle.bmx_collection.specs.Histories.{Deed, Plain, Collector, LinkedEvent, plain_events, tables_made, ReplaysLinked}
use Rattle.bmx_collection.specs.Runs.Programs.{LinkedScript, LinkedStage, linked_stages, next_part, is_due, DoesStageLinked}

-- what a node may do next: as without collectors, the next part of its collector's command, or to take a table
pub data LinkedAction : Type 0 where
  Acts : Action → LinkedAction
  DoesPart : (node : ℕ) → CollectorInput → LinkedAction
  TakesIt : (node : ℕ) → Table → LinkedAction

-- an event does an action: its node, and its input
abbrev pub IsDoneIn : LinkedEvent → LinkedAction → Type 0
IsDoneIn e (Acts a) = (e.node ≡ actor a) × Does (e.deed)
  where
    Does : Deed → Type 0
    Does (Plain i d) = i ≡ input_of a
    Does (Collector i d) = ⊥
IsDoneIn e (DoesPart n i) = (e.node ≡ n) × Collects i (e.deed)
  where
    Collects : CollectorInput → Deed → Type 0
    Collects i (Plain j d) = ⊥
    Collects i (Collector j d) = j ≡ i
IsDoneIn e (TakesIt n t) = (e.node ≡ n) × Takes (e.deed)
  where
    Takes : Deed → Type 0
    Takes (Plain j d) = ⊥
    Takes (Collector j d) = j ≡ TakeTable t

-- the next part of a collector's command, where one is left
abbrev pub part_action : ℕ → Option CollectorInput → List LinkedAction
part_action n None = []
part_action n (Some i) = DoesPart n i ∷ []

-- the tables from the first so many nodes that may be taken at a node, by rising sender and number
abbrev pub table_actions : LinkedStage → List LinkedEvent → ℕ → ℕ → List LinkedAction
table_actions s past n zero = []
table_actions s past n (suc from) =
    table_actions s past n from
    ++ map (TakesIt n) (filter (λ t. t.from == from && t.to == n && is_due s past t) (tables_made past))

-- the actions of a node in a phase, of which `part` has happened, with the names that it can serve: its command, its
-- collector, its serves, its letters, its tables
abbrev pub linked_actions_of : Setting → LinkedStage → List LinkedEvent → List LinkedEvent → ℕ → NodeState → List ℕ → List LinkedAction
linked_actions_of st stage past part n s names =
    map Acts (command_action n s (waits_with n None (plain_events (past ++ part)))
    (slice_get (program_in stage.stage n) (length (completed n (plain_events part)))))
    ++ part_action n (next_part st stage n part)
    ++ map (λ name. Acts (ServesName n name)) names
    ++ map Acts (letter_actions (plain_events (past ++ part)) n st.nodes)
    ++ table_actions stage (past ++ part) n st.nodes

-- the actions of the first so many nodes, by rising node
abbrev pub linked_actions : Setting → LinkedStage → List LinkedEvent → List LinkedEvent → (ℕ → LinkedNode) → (ℕ → List ℕ) → ℕ → List LinkedAction
linked_actions st stage past part nodes names zero = []
linked_actions st stage past part nodes names (suc n) =
    linked_actions st stage past part nodes names n ++ linked_actions_of st stage past part n (nodes n).state (names n)

-- the action that an event after so many others is to do: the generator's word modulo the number of actions
abbrev pub linked_pick : ℕ → ℕ → List LinkedAction → Option LinkedAction
linked_pick seed i [] = None
linked_pick seed i (a ∷ more) = slice_get (a ∷ more) (word seed i % length (a ∷ more))

-- ## serial histories

-- an event comes next in a phase: it does the pick of the enabled actions at the nodes that the events before it lead
-- to, with all names that can be served there
pub record ComesNextLinked (st : Setting) (seed : ℕ) (stage : LinkedStage) (past part : List LinkedEvent) (e : LinkedEvent) : Type 0 where
  pub nodes : ℕ → LinkedNode
  pub lead : ReplaysLinked st (first_linked st) (past ++ part) nodes
  pub names : ℕ → List ℕ
  pub served : (n : ℕ) → n < st.nodes → AreAll (CanServe n (nodes n).state) (names n)
  pub action : LinkedAction
  pub picks : linked_pick seed (length (past ++ part)) (linked_actions st stage past part nodes names st.nodes) ≡ Some action
  pub does : IsDoneIn e action

-- events of a phase, after those before it, are the serial turn's, each while the phase hasn't ended
abbrev pub TakesTurnsLinked : Setting → ℕ → List LinkedEvent → LinkedStage → List LinkedEvent → Type 0
TakesTurnsLinked st seed past stage events =
    (part rest : List LinkedEvent) (e : LinkedEvent) → part ++ e ∷ rest ≡ events →
    (DoesStageLinked st past stage part → ⊥) × ComesNextLinked st seed stage past part e

-- events after those before them take turns phase after phase: each phase ends as soon as it can
abbrev pub TakeTurnsLinked : Setting → ℕ → List LinkedEvent → List LinkedStage → List LinkedEvent → Type 0
TakeTurnsLinked st seed past [] events = events ≡ []
TakeTurnsLinked st seed past (s ∷ more) events =
    TakesTurnsLinked st seed past s events
    ⊎ ((part : List LinkedEvent) × (later : List LinkedEvent) × (events ≡ part ++ later)
    × TakesTurnsLinked st seed past s part × DoesStageLinked st past s part × TakeTurnsLinked st seed (past ++ part) more later)

-- a history is the serial turn's for a seed
abbrev pub IsSerialLinked : Setting → ℕ → LinkedScript → List LinkedEvent → Type 0
IsSerialLinked st seed script history = TakeTurnsLinked st seed [] (linked_stages script) history
