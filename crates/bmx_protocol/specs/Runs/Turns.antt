-- The serial turn: the actions that are enabled in a phase, in their order, and which one is picked.
use Rattle.std.specs.Prelude.{◌≡◌, ℕ, zero, suc, ◌%◌, ◌<◌, ◌⊎◌, Bool, false, if◌then◌else◌, List, [], ◌∷◌, ◌++◌, map, length, slice_get, Option, Some, None}
use Rattle.std.specs.Option.{option_map_or}
use Rattle.rand_core.specs.Pcg32Seed.{pcg32_seed}
use Rattle.rand_pcg.specs.Lcg.{Lcg, advance}
use Rattle.rand_pcg.specs.Pcg.{pcg32, pcg32_of_seed, multiplier_64}
use Rattle.bmx_types.specs.declared.commands.Operand.{Operand}
use Rattle.bmx_types.specs.declared.commands.Command.{Command}
use Rattle.bmx_graph.specs.Step.{target_of}
use Rattle.bmx_msg.specs.declared.letters.Letter.{Letter}
use Rattle.bmx_token.specs.Transitions.{Acquires, Releases, Serves}
use Rattle.bmx_protocol.specs.declared.inputs.Input.{Input}
use Rattle.bmx_protocol.specs.declared.inputs.Input.TheVariants as input
use Rattle.bmx_protocol.specs.declared.events.Event.{Event}
use Rattle.bmx_protocol.specs.Nodes.{Setting, NodeState, AreAll, seen_graph}
use Rattle.bmx_protocol.specs.Rules.{About, Token, Fields, Making, Nothing, about}
use Rattle.bmx_protocol.specs.Steps.{Node}
use Rattle.bmx_protocol.specs.Histories.{AreAfter, in_flight, waits_with}
use Rattle.bmx_protocol.specs.Runs.Programs.{Body, Order, Stage, stages, program_in, completed, CanServe, DoesStage}

-- what a node may do next: its next command, a serve, or the next letter from a node
pub data Action : Type 0 where
  TriesCommand : (node : ℕ) → Command → Action
  ServesName : (node name : ℕ) → Action
  TakesLetter : (node from : ℕ) → Letter → Action

-- the node and the input of an action
abbrev pub actor : Action → ℕ
actor (TriesCommand n c) = n
actor (ServesName n name) = n
actor (TakesLetter n from l) = n

abbrev pub input_of : Action → Input
input_of (TriesCommand n c) = input.Do c
input_of (ServesName n name) = input.Serve name
input_of (TakesLetter n from l) = input.Take from l

-- the operand of a command that takes a token
abbrev pub wanted_by : Command → Option Operand
wanted_by c = wanted_in (about c)
  where
    wanted_in : About → Option Operand
    wanted_in (Token (Acquires m) on) = Some on
    wanted_in (Token Releases on) = None
    wanted_in (Token Serves on) = None
    wanted_in (Fields on) = None
    wanted_in Making = None
    wanted_in Nothing = None

-- the token of a name is ready at a node
abbrev pub ready_at : NodeState → Option ℕ → Bool
ready_at s None = false
ready_at s (Some name) = option_map_or (λ k. k.part.ready) (s.known name) false

-- the token that a command waits for is ready
abbrev pub is_ready : ℕ → NodeState → Command → Bool
is_ready n s c = option_map_or (λ on. ready_at s (target_of (seen_graph n s) n on)) (wanted_by c) false

-- a node's next command of its program, where it doesn't wait, or waits and may be tried again
abbrev pub command_action : ℕ → NodeState → Option Command → Option Order → List Action
command_action n s w None = []
command_action n s None (Some g) = TriesCommand n g.command ∷ []
command_action n s (Some w) (Some g) = if is_ready n s g.command then TriesCommand n g.command ∷ [] else []

-- the next letter from a node
abbrev pub letter_action : ℕ → ℕ → List Letter → List Action
letter_action n from [] = []
letter_action n from (l ∷ letters) = TakesLetter n from l ∷ []

-- the next letters from the first so many nodes, by rising sender
abbrev pub letter_actions : List Event → ℕ → ℕ → List Action
letter_actions past n zero = []
letter_actions past n (suc from) = letter_actions past n from ++ letter_action n from (in_flight from n past)

-- the actions of a node in a phase, of which `part` has happened, with the names that it can serve: its
-- command, its serves, its letters
abbrev pub actions_of : Setting → Stage → List Event → List Event → ℕ → NodeState → List ℕ → List Action
actions_of st stage past part n s names =
    command_action n s (waits_with n None (past ++ part)) (slice_get (program_in stage n) (length (completed n part)))
    ++ map (ServesName n) names ++ letter_actions (past ++ part) n st.nodes

-- the actions of the first so many nodes, by rising node
abbrev pub actions : Setting → Stage → List Event → List Event → (ℕ → Node) → (ℕ → List ℕ) → ℕ → List Action
actions st stage past part nodes names zero = []
actions st stage past part nodes names (suc n) =
    actions st stage past part nodes names n ++ actions_of st stage past part n (nodes n).state (names n)

-- the generator of a seed, and its word number i from 0
abbrev pub generator : ℕ → Lcg
generator seed = pcg32_of_seed (pcg32_seed 16 seed)

abbrev pub word : ℕ → ℕ → ℕ
word seed i = (pcg32 (advance 64 multiplier_64 i (generator seed))).0

-- the action that an event after so many others is to do: the word modulo the number of actions
abbrev pub picked : ℕ → ℕ → List Action → Option Action
picked seed i [] = None
picked seed i (a ∷ more) = slice_get (a ∷ more) (word seed i % length (a ∷ more))

-- an event is the serial turn's: the pick of the enabled actions after those before it
pub record IsTurn (st : Setting) (seed : ℕ) (stage : Stage) (past part : List Event) (nodes : ℕ → Node) (names : ℕ → List ℕ) (e : Event) : Type 0 where
  pub action : Action
  pub picks : picked seed (length (past ++ part)) (actions st stage past part nodes names st.nodes) ≡ Some action
  pub by_node : e.node ≡ actor action
  pub by_input : e.input ≡ input_of action

-- ## serial histories

-- an event comes next in a phase: it is the serial turn's at the nodes that the events before it lead to, with
-- all names that can be served there
pub record ComesNext (st : Setting) (seed : ℕ) (stage : Stage) (past part : List Event) (e : Event) : Type 0 where
  pub nodes : ℕ → Node
  pub lead : AreAfter st (past ++ part) nodes
  pub names : ℕ → List ℕ
  pub served : (n : ℕ) → n < st.nodes → AreAll (CanServe n (nodes n).state) (names n)
  pub turn : IsTurn st seed stage past part nodes names e

-- events of a phase, after those before it, are the serial turn's, each while the phase hasn't ended
abbrev pub TakesTurns : Setting → ℕ → List Event → Stage → List Event → Type 0
TakesTurns st seed past stage events =
    (part rest : List Event) (e : Event) → part ++ e ∷ rest ≡ events →
    (DoesStage st past stage part → ⊥) × ComesNext st seed stage past part e

-- events after those before them take turns phase after phase: each phase ends as soon as it can
abbrev pub TakeTurns : Setting → ℕ → List Event → List Stage → List Event → Type 0
TakeTurns st seed past [] events = events ≡ []
TakeTurns st seed past (s ∷ more) events =
    TakesTurns st seed past s events
    ⊎ ((part : List Event) × (later : List Event) × (events ≡ part ++ later)
    × TakesTurns st seed past s part × DoesStage st past s part × TakeTurns st seed (past ++ part) more later)

-- a history is the serial turn's for a seed
abbrev pub IsSerial : Setting → ℕ → List Body → List Event → Type 0
IsSerial st seed body history = TakeTurns st seed [] (stages body) history
