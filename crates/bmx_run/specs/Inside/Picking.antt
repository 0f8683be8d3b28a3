-- What a runner may do next, as the turn lists it.
use Rattle.std.specs.Prelude.{◌≡◌, ℕ, ◌<◌, Bool, is_some, List, [], ◌∷◌, ◌++◌, map, length, slice_get, Option, Some, None}
use Rattle.std.specs.Option.{option_map_or}
use Rattle.bmx_msg.specs.declared.letters.Letter.{Letter}
use Rattle.bmx_protocol.specs.declared.events.Event.{Event}
use Rattle.bmx_protocol.specs.Histories.{in_flight, waits_with}
use Rattle.bmx_protocol.specs.Nodes.{AreAll}
use Rattle.bmx_protocol.specs.Runs.Programs.{Order, program_in, completed, CanServe}
use Rattle.bmx_protocol.specs.Runs.Turns.{Action, TriesCommand, ServesName, TakesLetter, actions, actions_of, command_action, letter_actions, picked}
use Rattle.bmx_node.specs.Stamped.{Stamped}
use Rattle.bmx_run.specs.declared.actions.Action.{Action as Choice}
use Rattle.bmx_run.specs.declared.actions.Action.TheVariants as choice
use Rattle.bmx_run.specs.declared.runner.Runner.{Runner}
use Rattle.bmx_run.specs.Inside.Steps.{nodes_in}
use Rattle.bmx_run.specs.Inside.Running.{Point, store_of, history_of, with_event, IsAt, IsOpen}

-- the names that a node can serve
abbrev pub served_in : List Stamped → ℕ → List ℕ
served_in nodes n = option_map_or (λ (d : Stamped). d.holdings.tokens.servable) (slice_get nodes n) []

-- they are all that it can serve
abbrev pub ServesAll : Point → Runner → ℕ → Type 0
ServesAll p r n = AreAll (CanServe n (nodes_in (store_of p) r.nodes.items n).state) (served_in r.nodes.items n)

-- the actions of a runner's nodes, of all and of one
abbrev pub actions_at : Point → Runner → List Action
actions_at p r = actions (store_of p) p.stage p.past p.part (nodes_in (store_of p) r.nodes.items) (served_in r.nodes.items) (store_of p).nodes

abbrev pub actions_by : Point → Runner → ℕ → List Action
actions_by p r n = actions_of (store_of p) p.stage p.past p.part n (nodes_in (store_of p) r.nodes.items n).state (served_in r.nodes.items n)

-- a node's serves and letters among them
abbrev pub others_by : Point → Runner → ℕ → List Action
others_by p r n = map (ServesName n) (served_in r.nodes.items n) ++ letter_actions (history_of p) n (store_of p).nodes

-- a node's command among them
abbrev pub tries_by : Point → Runner → ℕ → List Action
tries_by p r n =
    command_action n (nodes_in (store_of p) r.nodes.items n).state (waits_with n None (history_of p))
    (slice_get (program_in p.stage n) (length (completed n p.part)))

-- the order that a node may try, as an action
abbrev pub tried : ℕ → Option Order → List Action
tried n None = []
tried n (Some g) = TriesCommand n g.command ∷ []

-- which nodes may try their next command
abbrev pub MayTry : Point → Runner → ℕ → Bool → Type 0
MayTry p r n b = (o : Option Order) × (b ≡ is_some o) × (tries_by p r n ≡ tried n o)

abbrev pub AreTries : Point → Runner → List Bool → Type 0
AreTries p r tries = (n : ℕ) → n < (store_of p).nodes → (b : Bool) × (slice_get tries n ≡ Some b) × MayTry p r n b

-- the same behind an event
abbrev pub GoOn : List Bool → List Bool → Runner → Type 0
GoOn before behind new =
    (p : Point) (e : Event) (old : Runner) → IsAt p old → AreTries p old before → IsAt (with_event p e) new → AreTries (with_event p e) new behind

-- how many actions there are, with all that nodes can serve
pub record Counts (p : Point) (r : Runner) (count : ℕ) : Type 0 where
  pub all : count ≡ length (actions_at p r)
  pub served : (n : ℕ) → n < (store_of p).nodes → ServesAll p r n

-- a choice is an action of the turn, with the letter that it takes
pub data Means (history : List Event) : Choice → Action → Type 0 where
  Tries : (g : Order) → Means history (choice.Try g) (TriesCommand g.node g.command)
  Serves : (n name : ℕ) → Means history (choice.Serve n name) (ServesName n name)
  Takes : (n from : ℕ) (l : Letter) (rest : List Letter) → in_flight from n history ≡ l ∷ rest → Means history (choice.Take n from) (TakesLetter n from l)

-- a command that is tried is the next one of its node
abbrev pub IsNextOrder : Point → Order → Type 0
IsNextOrder p g = slice_get (program_in p.stage g.node) (length (completed g.node p.part)) ≡ Some g

abbrev pub IsNextIfTried : Point → Choice → Type 0
IsNextIfTried p (choice.Try g) = IsNextOrder p g
IsNextIfTried p (choice.Serve n name) = Unit {0}
IsNextIfTried p (choice.Take n from) = Unit {0}

-- a choice is the action at a place
pub record ChoosesAt (p : Point) (listed : List Action) (place : ℕ) (c : Choice) : Type 0 where
  pub action : Action
  pub there : slice_get listed place ≡ Some action
  pub means : Means (history_of p) c action
  pub next : IsNextIfTried p c

-- the turn picks a choice, in a phase that isn't done, and there may be one more event
pub record MayTurn (p : Point) (r : Runner) (c : Choice) : Type 0 where
  pub is_at : IsAt p r
  pub goes_on : IsOpen p
  pub room : length (history_of p) < r.budget
  pub served : (n : ℕ) → n < (store_of p).nodes → ServesAll p r n
  pub action : Action
  pub picks : picked p.seed (length (history_of p)) (actions_at p r) ≡ Some action
  pub means : Means (history_of p) c action
