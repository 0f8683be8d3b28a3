-- What a runner notes of a command that was tried.
use Rattle.std.specs.Prelude.{◌≡◌, ◌+◌, ◌-◌, ◌<◌, ◌≤◌, ◌++◌, length, slice_get, slice_set, Some, string_bytes, string_len, string_capacity}
use Rattle.bmx_protocol.specs.declared.events.Event.{Event}
use Rattle.bmx_protocol.specs.Histories.{is_wait}
use Rattle.bmx_protocol.specs.Runs.Programs.{Order}
use Rattle.bmx_world.specs.Texts.{printed_of, line_if}
use Rattle.bmx_run.specs.declared.seats.Seat.{Seat}
use Rattle.bmx_run.specs.declared.runner.Runner.{Runner}
use Rattle.bmx_run.specs.Inside.Seats.{SeatAfter}

-- there is a last event, the node has a command to complete, and there is room for its line
pub record CanNote (r : Runner) (g : Order) : Type 0 where
  pub event : Event
  pub last : slice_get r.history.items (length r.history.items - 1) ≡ Some event
  pub seat : Seat
  pub there : slice_get r.seats.items g.node ≡ Some seat
  pub next : seat.completed < length seat.orders.items
  pub room : string_len r.text + 96 ≤ string_capacity r.text

-- the node's seat follows the answer of the last event, and its line is printed behind the text
pub record Notes (old : Runner) (g : Order) (new : Runner) : Type 0 where
  pub event : Event
  pub last : slice_get old.history.items (length old.history.items - 1) ≡ Some event
  pub before : Seat
  pub behind : Seat
  pub there : slice_get old.seats.items g.node ≡ Some before
  pub after : SeatAfter (is_wait event.done.answer) before behind
  pub seats : new.seats.items ≡ slice_set old.seats.items g.node behind
  pub text : string_bytes new.text ≡ string_bytes old.text ++ line_if g.node g.line (printed_of g.command event.done.answer)
  pub history : new.history ≡ old.history
  pub nodes : new.nodes ≡ old.nodes
  pub lanes : new.lanes ≡ old.lanes
  pub generator : new.generator ≡ old.generator
  pub budget : new.budget ≡ old.budget
