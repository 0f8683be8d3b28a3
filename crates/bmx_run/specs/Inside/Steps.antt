-- A step of one of the nodes of a run, as its runner makes it.
use Rattle.std.specs.Prelude.{◌≡◌, ℕ, ◌<◌, ◌^◌, List, [], ◌∷◌, ◌++◌, length, slice_get, slice_set, Some}
use Rattle.std.specs.Option.{option_map_or}
use Rattle.bmx_protocol.specs.declared.inputs.Input.{Input}
use Rattle.bmx_protocol.specs.declared.inputs.Done.{Done}
use Rattle.bmx_protocol.specs.declared.events.Event.{Event}
use Rattle.bmx_protocol.specs.Nodes.{Setting}
use Rattle.bmx_protocol.specs.Steps.{Node, first_node, IsStep, stamp_after}
use Rattle.bmx_node.specs.Stamped.{Stamped}
use Rattle.bmx_node.specs.Seen.{node_of, Suits, FitsInput}
use Rattle.bmx_run.specs.declared.runner.Runner.{Runner}

-- nodes by number, and their stamps; a number that is no node of the store has what it would open with
abbrev pub nodes_in : Setting → List Stamped → ℕ → Node
nodes_in st nodes n = option_map_or (λ (d : Stamped). node_of d.holdings) (slice_get nodes n) (first_node st n)

abbrev pub stamps_in : List Stamped → ℕ → ℕ
stamps_in nodes n = option_map_or (λ (d : Stamped). d.stamp) (slice_get nodes n) 0

-- the nodes are those of a store, each at its number
pub record AreNodes (st : Setting) (nodes : List Stamped) : Type 0 where
  pub each : length nodes ≡ st.nodes
  pub me : (n : ℕ) (d : Stamped) → slice_get nodes n ≡ Some d → d.holdings.me ≡ n
  pub suits : (n : ℕ) (d : Stamped) → slice_get nodes n ≡ Some d → Suits st d.holdings

-- a node of a runner can take a step by an input
pub record CanStep (r : Runner) (n : ℕ) (i : Input) : Type 0 where
  pub node : Stamped
  pub there : slice_get r.nodes.items n ≡ Some node
  pub early : node.holdings.clock < 2 ^ 55
  pub fits : FitsInput node.holdings.store.bunches i

-- the event of a node's step, with the stamp that the node has after it
abbrev pub event_of : ℕ → Input → Stamped → Done → Event
event_of n i behind done = record { node = n; stamp = behind.stamp; input = i; done = done }

-- a node took a step, which is the history's next event
pub record Steps (st : Setting) (old : Runner) (n : ℕ) (i : Input) (new : Runner) : Type 0 where
  pub before : Stamped
  pub behind : Stamped
  pub done : Done
  pub there : slice_get old.nodes.items n ≡ Some before
  pub stamped : behind.stamp ≡ stamp_after before.stamp i
  pub step : IsStep st n (node_of before.holdings) behind.stamp i done (node_of behind.holdings)
  pub same : behind.holdings.me ≡ n
  pub suits : Suits st behind.holdings
  pub history : new.history.items ≡ old.history.items ++ event_of n i behind done ∷ []
  pub nodes : new.nodes.items ≡ slice_set old.nodes.items n behind

-- nodes are seen as before, each at its number: words and room may differ
pub record SameNodes (st : Setting) (old new : List Stamped) : Type 0 where
  pub nodes : AreNodes st new
  pub seen : nodes_in st new ≡ nodes_in st old
  pub stamps : stamps_in new ≡ stamps_in old

-- besides nodes and history, a runner is the same
pub record SameRest (old new : Runner) : Type 0 where
  pub seats : new.seats ≡ old.seats
  pub lanes : new.lanes ≡ old.lanes
  pub generator : new.generator ≡ old.generator
  pub text : new.text ≡ old.text
  pub budget : new.budget ≡ old.budget

-- what was done of a run is as before
pub record SameRun (st : Setting) (old new : Runner) : Type 0 where
  pub history : new.history.items ≡ old.history.items
  pub nodes : SameNodes st old.nodes.items new.nodes.items
