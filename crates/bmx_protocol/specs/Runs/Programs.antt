-- Programs in phases, and the histories that run or follow them.
use Rattle.std.specs.Prelude.{◌≡◌, ℕ, ◌+◌, ◌<◌, ◌==◌, ◌⊎◌, Bool, true, false, if◌then◌else◌, List, [], ◌∷◌, ◌++◌, map, length, filter, filter_map, slice_get, Option, Some, None}
use Rattle.std.specs.Option.{option_map_or, option_and_then}
use Rattle.bmx_types.specs.declared.commands.Command.{Command}
use Rattle.bmx_types.specs.declared.commands.Command.TheVariants as command
use Rattle.bmx_types.specs.Updates.{put}
use Rattle.bmx_protocol.specs.declared.inputs.Input.{Input}
use Rattle.bmx_protocol.specs.declared.inputs.NodeAnswer.{NodeAnswer}
use Rattle.bmx_protocol.specs.declared.inputs.NodeAnswer.TheVariants as answer
use Rattle.bmx_protocol.specs.declared.events.Event.{Event}
use Rattle.bmx_protocol.specs.Nodes.{Setting, NodeState}
use Rattle.bmx_token.specs.Transitions.{can_serve}
use Rattle.bmx_protocol.specs.Steps.{Node, command_in}
use Rattle.bmx_protocol.specs.Histories.{AreAfter, in_flight, is_wait}

-- a line of a script's body: a command of a node, with the line's number, or the end of a phase
pub data Body : Type 0 where
  Gives : (node line : ℕ) → Command → Body
  Phase : Body
  Quiet : Body

-- a command of a node, and its line
pub record Order : Type 0 where
  pub node : ℕ
  pub line : ℕ
  pub command : Command

-- the commands of a phase in order, and whether it ends quietly: with no letter in flight and nothing
-- to serve
pub record Stage : Type 0 where
  pub commands : List Order
  pub quiet : Bool

-- the phases of a body: the end of the script ends the last one as a plain end does
abbrev pub stages : List Body → List Stage
stages [] = record { commands = []; quiet = false } ∷ []
stages (Gives node line c ∷ body) = with_given (record { node = node; line = line; command = c }) (stages body)
  where
    with_given : Order → List Stage → List Stage
    with_given g [] = []
    with_given g (s ∷ more) = record s { commands = g ∷ s.commands } ∷ more
stages (Phase ∷ body) = record { commands = []; quiet = false } ∷ stages body
stages (Quiet ∷ body) = record { commands = []; quiet = true } ∷ stages body

-- a node's program in a phase
abbrev pub program_in : Stage → ℕ → List Order
program_in s n = filter (λ g. g.node == n) s.commands

-- a node's program over all phases
abbrev pub program : List Body → ℕ → List Order
program [] n = []
program (Gives node line c ∷ body) n =
    if node == n then record { node = node; line = line; command = c } ∷ program body n else program body n
program (Phase ∷ body) n = program body n
program (Quiet ∷ body) n = program body n

-- the commands of a node's program in a phase
abbrev pub commands_in : Stage → ℕ → List Command
commands_in s n = map (λ g. g.command) (program_in s n)

-- the command that an input and an answer complete: one that doesn't wait
abbrev pub completion : Input → NodeAnswer → Option Command
completion i a = option_and_then (λ c. if is_wait a then None else Some c) (command_in i)

-- the commands that a node completed in events, in order
abbrev pub completed : ℕ → List Event → List Command
completed n events = filter_map (λ e. if e.node == n then completion e.input e.done.answer else None) events

-- the head of the queue of a name can be served at a node
abbrev pub CanServe : ℕ → NodeState → ℕ → Type 0
CanServe n s name = option_map_or (λ k. can_serve n k.part) (s.known name) false ≡ true

-- after events no letter is in flight and nothing can be served
pub record IsQuiet (st : Setting) (past : List Event) : Type 0 where
  pub no_letter : (n m : ℕ) → n < st.nodes → m < st.nodes → in_flight n m past ≡ []
  pub nodes : ℕ → Node
  pub lead : AreAfter st past nodes
  pub no_serve : (n name : ℕ) → n < st.nodes → CanServe n (nodes n).state name → ⊥

-- where a phase ends quietly
abbrev pub EndsPhase : Setting → Bool → List Event → Type 0
EndsPhase st true past = IsQuiet st past
EndsPhase st false past = Unit {0}

-- events begin a phase: each command that is tried in them, also one that waits, is the next of its node's
-- program there, the one behind those that the node completed before
abbrev pub BeginsStage : Stage → List Event → Type 0
BeginsStage s events =
    (before rest : List Event) (e : Event) (c : Command) → before ++ e ∷ rest ≡ events → command_in e.input ≡ Some c →
    slice_get (commands_in s e.node) (length (completed e.node before)) ≡ Some c

-- events do a phase after those before it: they begin it, and each node completes its program
pub record DoesStage (st : Setting) (past : List Event) (s : Stage) (events : List Event) : Type 0 where
  pub begun : BeginsStage s events
  pub done : (n : ℕ) → n < st.nodes → completed n events ≡ commands_in s n
  pub ended : EndsPhase st s.quiet (past ++ events)

-- events after those before them do phases, one part of them each
abbrev pub DoAll : Setting → List Event → List Stage → List Event → Type 0
DoAll st past [] events = events ≡ []
DoAll st past (s ∷ more) events =
    (part : List Event) × (later : List Event) × (events ≡ part ++ later) × DoesStage st past s part × DoAll st (past ++ part) more later

-- the same, with the last part stopped short and later parts missing
abbrev pub DoSome : Setting → List Event → List Stage → List Event → Type 0
DoSome st past [] events = events ≡ []
DoSome st past (s ∷ more) events =
    BeginsStage s events
    ⊎ ((part : List Event) × (later : List Event) × (events ≡ part ++ later) × DoesStage st past s part × DoSome st (past ++ part) more later)

-- a history runs a body
abbrev pub Runs : Setting → List Body → List Event → Type 0
Runs st body history = DoAll st [] (stages body) history

-- a history runs a body in part
abbrev pub RunsInPart : Setting → List Body → List Event → Type 0
RunsInPart st body history = DoSome st [] (stages body) history

-- ## what is printed

-- a line of output: the node, the line of its command, and the answer
pub record Output : Type 0 where
  pub node : ℕ
  pub line : ℕ
  pub answer : NodeAnswer

-- show and same are printed where they are done, and any command where it is refused
abbrev pub is_printed : Command → NodeAnswer → Bool
is_printed c answer.Wait = false
is_printed c (answer.Refused why) = true
is_printed (command.Show on index) a = true
is_printed (command.Same left right) a = true
is_printed c a = false

-- what is printed of a command that a node completed as its next one
abbrev pub output_of : Option Order → ℕ → Command → NodeAnswer → List Output
output_of None n c a = []
output_of (Some g) n c a = if is_printed c a then record { node = n; line = g.line; answer = a } ∷ [] else []

-- what is printed of an event that completes a command, where each node has completed so many before
abbrev pub output_at : List Body → (ℕ → ℕ) → Event → Option Command → List Output
output_at body counts e None = []
output_at body counts e (Some c) = output_of (slice_get (program body e.node) (counts e.node)) e.node c e.done.answer

-- how many commands each node has completed after it
abbrev pub counts_after : (ℕ → ℕ) → ℕ → Option Command → ℕ → ℕ
counts_after counts n None = counts
counts_after counts n (Some c) = put counts n (counts n + 1)

-- what is printed of events, in order
abbrev pub outputs : List Body → (ℕ → ℕ) → List Event → List Output
outputs body counts [] = []
outputs body counts (e ∷ events) =
    output_at body counts e (completion e.input e.done.answer)
    ++ outputs body (counts_after counts e.node (completion e.input e.done.answer)) events

-- what is printed of a history
abbrev pub text : List Body → List Event → List Output
text body history = outputs body (λ _. 0) history
