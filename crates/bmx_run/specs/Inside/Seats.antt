-- A node's program in a phase, and how far it has come.
use Rattle.std.specs.Prelude.{◌≡◌, ℕ, ◌+◌, ◌==◌, Bool, if◌then◌else◌, List, length, filter, slice_get, Option, Some, None}
use Rattle.std.specs.Option.{option_map}
use Rattle.bmx_types.specs.declared.commands.Command.{Command}
use Rattle.bmx_protocol.specs.declared.events.Event.{Event}
use Rattle.bmx_protocol.specs.Histories.{waits_with}
use Rattle.bmx_protocol.specs.Runs.Programs.{Order, completed}
use Rattle.bmx_run.specs.declared.seats.Seat.{Seat}

-- of commands those of a node
abbrev pub orders_of : ℕ → List Order → List Order
orders_of n orders = filter (λ g. g.node == n) orders

-- the command at a place of a program
abbrev pub command_at : List Order → ℕ → Option Command
command_at orders i = option_map (λ g. g.command) (slice_get orders i)

-- a seat is node n's, of these commands of the phase: it has completed what the events of the phase completed, and
-- waits where the node waits after the whole history
pub record SitsAt (orders : List Order) (part history : List Event) (n : ℕ) (s : Seat) : Type 0 where
  pub program : s.orders.items ≡ orders_of n orders
  pub completed : s.completed ≡ length (completed n part)
  pub waits : waits_with n None history ≡ (if s.waits then command_at s.orders.items s.completed else None)

-- seats are those of the nodes, of which there are so many
pub record AreSeats (nodes : ℕ) (orders : List Order) (part history : List Event) (seats : List Seat) : Type 0 where
  pub each : length seats ≡ nodes
  pub sits : (n : ℕ) (s : Seat) → slice_get seats n ≡ Some s → SitsAt orders part history n s

-- what becomes of a seat by the answer to its next command: it waits, or the command is completed
pub record SeatAfter (waits_now : Bool) (old new : Seat) : Type 0 where
  pub program : new.orders.items ≡ old.orders.items
  pub completed : new.completed ≡ (if waits_now then old.completed else old.completed + 1)
  pub waits : new.waits ≡ waits_now
