-- Programs with collectors in phases, the fates of tables, and the histories that run or follow a script. Of what is
-- done without collectors the definitions of programs without them are cited.
use Rattle.std.specs.Prelude.{◌≡◌, ℕ, ◌+◌, ◌<◌, ◌==◌, ◌&&◌, ◌%◌, ◌⊎◌, nat_lt, nat_le, Bool, true, false, if◌then◌else◌, List, [], ◌∷◌, ◌++◌, map, length, drop, filter, filter_map, zip, slice_get, Contains, IsTrue, Option, Some, None, unwrap_or}
use Rattle.std.specs.List.{list_any}
use Rattle.bmx_table.specs.declared.tables.Table.{Table}
use Rattle.bmx_protocol.specs.declared.inputs.NodeAnswer.TheVariants as answer
use Rattle.bmx_protocol.specs.Nodes.{Setting}
use Rattle.bmx_protocol.specs.Histories.{in_flight}
use Rattle.bmx_protocol.specs.Runs.Programs.{Body, Gives, Phase, Quiet, Stage, stages, completion, completed, commands_in, CanServe, BeginsStage, Output, output_at}
use Rattle.bmx_collection.specs.Steps.{LinkedNode, first_linked, CollectorInput, Collect, Sweep, MakeTable, TakeTable, CollectorAnswer, Refused}
use Rattle.bmx_collection.specs.Histories.{Deed, Plain, Collector, LinkedEvent, plain_events, table_taken, tables_made, times_taken, ReplaysLinked}
use Rattle.bmx_collection.specs.Finding.{below}

-- ## scripts

-- a command of a collector: to collect a bunch and then to tell all nodes of it, or to drop segments
pub data Duty : Type 0 where
  Collects : (bunch : ℕ) → Duty
  Sweeps : Duty

-- such a command of a node, and its line
pub record DutyAt : Type 0 where
  pub node : ℕ
  pub line : ℕ
  pub duty : Duty

-- a line of a script's body: one without a collector, or a command of one
pub data LinkedBody : Type 0 where
  Other : Body → LinkedBody
  Assigns : DutyAt → LinkedBody

-- how often a table is taken, and in which phase at the earliest, counted from 1
pub record Fate : Type 0 where
  pub times : ℕ
  pub phase : ℕ

-- a line about tables: the fate of one, by maker, receiver and number; or each table of that many is lost, but for
-- those that have a line
pub data TableLine : Type 0 where
  Decides : (from to number : ℕ) → Fate → TableLine
  Loses : (every : ℕ) → TableLine

pub record LinkedScript : Type 0 where
  pub lines : List TableLine
  pub body : List LinkedBody

-- ## phases

-- the lines without a collector
abbrev pub other_lines : List LinkedBody → List Body
other_lines body = filter_map other body
  where
    other : LinkedBody → Option Body
    other (Other b) = Some b
    other (Assigns d) = None

-- the collectors' commands of each phase
abbrev pub duties : List LinkedBody → List (List DutyAt)
duties [] = [] ∷ []
duties (Assigns d ∷ body) = with_duty d (duties body)
  where
    with_duty : DutyAt → List (List DutyAt) → List (List DutyAt)
    with_duty d [] = []
    with_duty d (phase ∷ more) = (d ∷ phase) ∷ more
duties (Other (Gives node line c) ∷ body) = duties body
duties (Other Phase ∷ body) = [] ∷ duties body
duties (Other Quiet ∷ body) = [] ∷ duties body

-- a phase: as without collectors, what these are to do, its number from 1, and the lines about tables
pub record LinkedStage : Type 0 where
  pub stage : Stage
  pub duties : List DutyAt
  pub phase : ℕ
  pub lines : List TableLine

-- phases with their numbers from one on
abbrev pub stages_from : List TableLine → ℕ → List (Stage × List DutyAt) → List LinkedStage
stages_from lines phase [] = []
stages_from lines phase (p ∷ more) = record { stage = p.0; duties = p.1; phase = phase; lines = lines } ∷ stages_from lines (phase + 1) more

-- the phases of a script
abbrev pub linked_stages : LinkedScript → List LinkedStage
linked_stages script = stages_from script.lines 1 (zip (stages (other_lines script.body)) (duties script.body))

-- a node's collector program in a phase
abbrev pub duties_of : LinkedStage → ℕ → List Duty
duties_of s n = map (λ d. d.duty) (filter (λ d. d.node == n) s.duties)

-- ## what a collector's program comes to

-- a collection was refused
abbrev pub is_refused : Option CollectorAnswer → Bool
is_refused (Some (Refused why)) = true
is_refused a = false

-- the inputs of a command, whose first was answered so: after a collection that isn't refused a table for each node
abbrev pub parts_of : ℕ → Option CollectorAnswer → Duty → List CollectorInput
parts_of nodes a (Collects bunch) = Collect bunch ∷ (if is_refused a then [] else map (MakeTable bunch) (below nodes))
parts_of nodes a Sweeps = Sweep ∷ []

-- the inputs of a program in order, by the answers that were given so far
abbrev pub plan : ℕ → List CollectorAnswer → List Duty → List CollectorInput
plan nodes answers [] = []
plan nodes answers (d ∷ more) =
    let parts : List CollectorInput = parts_of nodes (slice_get answers 0) d in
    parts ++ plan nodes (drop (length parts) answers) more

-- the input of a collector's program in an event, with its answer: tables are taken whatever a program says
abbrev pub part_in : Deed → Option (CollectorInput × CollectorAnswer)
part_in (Plain i d) = None
part_in (Collector (Collect bunch) d) = Some (Collect bunch, d.answer)
part_in (Collector Sweep d) = Some (Sweep, d.answer)
part_in (Collector (MakeTable bunch to) d) = Some (MakeTable bunch to, d.answer)
part_in (Collector (TakeTable table) d) = None

-- those of a node in events, in order
abbrev pub parts_done : ℕ → List LinkedEvent → List (CollectorInput × CollectorAnswer)
parts_done n events = filter_map (λ e. if e.node == n then part_in e.deed else None) events

-- what a node's program comes to by the answers in events of a phase, and what is next of it
abbrev pub plan_of : Setting → LinkedStage → ℕ → List LinkedEvent → List CollectorInput
plan_of st s n events = plan st.nodes (map (λ (p : CollectorInput × CollectorAnswer). p.1) (parts_done n events)) (duties_of s n)

abbrev pub next_part : Setting → LinkedStage → ℕ → List LinkedEvent → Option CollectorInput
next_part st s n events = slice_get (plan_of st s n events) (length (parts_done n events))

-- ## fates

-- the fate that a line gives a table
abbrev pub fate_in : Table → TableLine → Option Fate
fate_in t (Decides from to number fate) = if t.from == from && t.to == to && t.number == number then Some fate else None
fate_in t (Loses every) = None

-- a line loses it, unless another line decides
abbrev pub is_lost_by : Table → TableLine → Bool
is_lost_by t (Decides from to number fate) = false
is_lost_by t (Loses every) = t.number % every == 0

-- the fate of a table: by its own line, else lost by a line for all, else taken once
abbrev pub fate_of : List TableLine → Table → Fate
fate_of lines t =
    unwrap_or (slice_get (filter_map (fate_in t) lines) 0) (record { times = if list_any (is_lost_by t) lines then 0 else 1; phase = 1 })

-- a table may be taken in a phase after events: its first phase has come, and it was taken fewer times
abbrev pub is_due : LinkedStage → List LinkedEvent → Table → Bool
is_due s past t = nat_le (fate_of s.lines t).phase s.phase && nat_lt (times_taken t past) (fate_of s.lines t).times

-- ## histories that do phases

-- after events no letter is in flight, nothing can be served, and no table may be taken
pub record IsQuietLinked (st : Setting) (s : LinkedStage) (past : List LinkedEvent) : Type 0 where
  pub no_letter : (n m : ℕ) → n < st.nodes → m < st.nodes → in_flight n m (plain_events past) ≡ []
  pub nodes : ℕ → LinkedNode
  pub lead : ReplaysLinked st (first_linked st) past nodes
  pub no_serve : (n name : ℕ) → n < st.nodes → CanServe n (nodes n).state name → ⊥
  pub no_table : (t : Table) → Contains (tables_made past) t → is_due s past t ≡ false

-- where a phase ends quietly
abbrev pub EndsPhaseLinked : Setting → LinkedStage → List LinkedEvent → Type 0
EndsPhaseLinked st s past = IsTrue s.stage.quiet → IsQuietLinked st s past

-- events begin a phase after those before it: each command that is tried is the next of its node, each part of a
-- collector's commands is the next there, and each table that is taken is due
pub record BeginsStageLinked (st : Setting) (past : List LinkedEvent) (s : LinkedStage) (events : List LinkedEvent) : Type 0 where
  pub commands : BeginsStage s.stage (plain_events events)
  pub parts : (before rest : List LinkedEvent) (e : LinkedEvent) (p : CollectorInput × CollectorAnswer) → before ++ e ∷ rest ≡ events →
      part_in e.deed ≡ Some p → next_part st s e.node before ≡ Some p.0
  pub tables : (before rest : List LinkedEvent) (e : LinkedEvent) (t : Table) → before ++ e ∷ rest ≡ events → table_taken e.deed ≡ Some t →
      is_due s (past ++ before) t ≡ true

-- events do a phase: they begin it, and each node completes both its programs
pub record DoesStageLinked (st : Setting) (past : List LinkedEvent) (s : LinkedStage) (events : List LinkedEvent) : Type 0 where
  pub begun : BeginsStageLinked st past s events
  pub commands_done : (n : ℕ) → n < st.nodes → completed n (plain_events events) ≡ commands_in s.stage n
  pub duties_done : (n : ℕ) → n < st.nodes → next_part st s n events ≡ None
  pub ended : EndsPhaseLinked st s (past ++ events)

-- events after those before them do phases, one part of them each
abbrev pub DoAllLinked : Setting → List LinkedEvent → List LinkedStage → List LinkedEvent → Type 0
DoAllLinked st past [] events = events ≡ []
DoAllLinked st past (s ∷ more) events =
    (part : List LinkedEvent) × (later : List LinkedEvent) × (events ≡ part ++ later)
    × DoesStageLinked st past s part × DoAllLinked st (past ++ part) more later

-- the same, with the last part stopped short and later parts missing
abbrev pub DoSomeLinked : Setting → List LinkedEvent → List LinkedStage → List LinkedEvent → Type 0
DoSomeLinked st past [] events = events ≡ []
DoSomeLinked st past (s ∷ more) events =
    BeginsStageLinked st past s events
    ⊎ ((part : List LinkedEvent) × (later : List LinkedEvent) × (events ≡ part ++ later)
    × DoesStageLinked st past s part × DoSomeLinked st (past ++ part) more later)

-- a history runs a script, and runs it in part
abbrev pub RunsLinked : Setting → LinkedScript → List LinkedEvent → Type 0
RunsLinked st script history = DoAllLinked st [] (linked_stages script) history

abbrev pub RunsInPartLinked : Setting → LinkedScript → List LinkedEvent → Type 0
RunsInPartLinked st script history = DoSomeLinked st [] (linked_stages script) history

-- ## what is printed

-- the line of each of a node's collections and sweeps, in order
abbrev pub duty_lines : List LinkedBody → ℕ → List ℕ
duty_lines body n = filter_map line body
  where
    line : LinkedBody → Option ℕ
    line (Other b) = None
    line (Assigns d) = if d.node == n then Some d.line else None

-- an input begins a command of a collector's program
abbrev pub begins_duty : CollectorInput → Bool
begins_duty (Collect bunch) = true
begins_duty Sweep = true
begins_duty (MakeTable bunch to) = false
begins_duty (TakeTable table) = false

-- how many a node has begun in events
abbrev pub duties_begun : ℕ → List LinkedEvent → ℕ
duties_begun n events = length (filter (λ (p : CollectorInput × CollectorAnswer). begins_duty p.0) (parts_done n events))

-- what is printed of a collector's input at a line: that it is refused
abbrev pub output_of_part : ℕ → Option ℕ → CollectorAnswer → List Output
output_of_part n (Some line) (Refused why) = record { node = n; line = line; answer = answer.Refused why } ∷ []
output_of_part n line a = []

-- what is printed of an event behind others
abbrev pub output_behind : List LinkedBody → List LinkedEvent → LinkedEvent → List Output
output_behind body past e = by (e.deed)
  where
    by : Deed → List Output
    by (Plain i d) =
        output_at (other_lines body) (λ n. length (completed n (plain_events past)))
        (record { node = e.node; stamp = e.stamp; input = i; done = d }) (completion i d.answer)
    by (Collector i d) = output_of_part e.node (slice_get (duty_lines body e.node) (duties_begun e.node past)) d.answer

-- what is printed of events behind others, in order
abbrev pub outputs_behind : List LinkedBody → List LinkedEvent → List LinkedEvent → List Output
outputs_behind body past [] = []
outputs_behind body past (e ∷ events) = output_behind body past e ++ outputs_behind body (past ++ e ∷ []) events

-- what is printed of a history
abbrev pub linked_text : List LinkedBody → List LinkedEvent → List Output
linked_text body history = outputs_behind body [] history
