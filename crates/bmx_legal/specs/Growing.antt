-- How a history grows by one event of a driver that keeps a stamp for each node, and takes the first letter in flight.
use Rattle.std.specs.Prelude.{◌≡◌, ℕ, ◌<◌, ◌≤◌, List, Contains, length, slice_get, Some, None, IfSome}
use Rattle.bmx_msg.specs.declared.letters.Letter.{Letter}
use Rattle.bmx_protocol.specs.declared.inputs.Input.{Input}
use Rattle.bmx_protocol.specs.declared.events.Event.{Event}
use Rattle.bmx_protocol.specs.Nodes.{Setting}
use Rattle.bmx_protocol.specs.Steps.{Node, IsStep, letter_in, stamp_after}
use Rattle.bmx_protocol.specs.Histories.{in_flight, IsInputOf, waits_with, IsAgain, AreAfter, IsLegal}

-- stamps of nodes after a history: no event of a node has a larger one, and none is larger than the number of events
pub record AreStamps (history : List Event) (stamps : ℕ → ℕ) : Type 0 where
  pub last : (e : Event) → Contains history e → e.stamp ≤ stamps e.node
  pub few : (n : ℕ) → stamps n ≤ length history

-- a history is legal, and leads to these nodes, with these stamps
pub record Leads (st : Setting) (history : List Event) (nodes : ℕ → Node) (stamps : ℕ → ℕ) : Type 0 where
  pub legal : IsLegal st history
  pub reached : AreAfter st history nodes
  pub stamped : AreStamps history stamps

-- a letter that is taken is the first in flight from its sender to the node
abbrev pub TakesFirst : List Event → ℕ → Input → Type 0
TakesFirst past m i = IfSome (letter_in i) (λ (l : ℕ × Letter). slice_get (in_flight l.0 m past) 0 ≡ Some l.1)

-- an event may come next: it is a step of a node of the store by an input of the store, with the node's stamp after that input;
-- it takes the first letter, if it takes one, and a node that waits gives its command again
pub record MayFollow (st : Setting) (past : List Event) (nodes : ℕ → Node) (stamps : ℕ → ℕ) (e : Event) (n : Node) : Type 0 where
  pub a_node : e.node < st.nodes
  pub an_input : IsInputOf st e.input
  pub step : IsStep st e.node (nodes e.node) e.stamp e.input e.done n
  pub stamp : e.stamp ≡ stamp_after (stamps e.node) e.input
  pub first : TakesFirst past e.node e.input
  pub again : IsAgain (waits_with e.node None past) e.input
