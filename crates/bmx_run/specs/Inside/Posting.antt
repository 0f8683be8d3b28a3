-- Letters of the last event come into flight.
use Rattle.std.specs.Prelude.{◌≡◌, ℕ, ◌-◌, ◌==◌, if◌then◌else◌, List, [], ◌++◌, length, slice_get, Some}
use Rattle.bmx_protocol.specs.declared.inputs.Sending.{Sending}
use Rattle.bmx_protocol.specs.declared.events.Event.{Event}
use Rattle.bmx_legal.specs.Inside.Spots.{spots_to}
use Rattle.bmx_lanes.specs.Sending.{lane_of}
use Rattle.bmx_run.specs.declared.runner.Runner.{Runner}

-- a runner is the same besides its lanes
pub record SameBesidesLanes (old new : Runner) : Type 0 where
  pub history : new.history ≡ old.history
  pub nodes : new.nodes ≡ old.nodes
  pub seats : new.seats ≡ old.seats
  pub generator : new.generator ≡ old.generator
  pub text : new.text ≡ old.text
  pub budget : new.budget ≡ old.budget

-- letters of an event of this number, which a node made, stand at the ends of their lanes
abbrev pub Sends : List (List (List (ℕ × ℕ))) → ℕ → ℕ → List Sending → List (List (List (ℕ × ℕ))) → Type 0
Sends old node event letters new = (from to : ℕ) → lane_of new from to ≡ lane_of old from to ++ (if from == node then spots_to to event 0 letters else [])

-- those of the last event do
pub record Posts (old : Runner) (node : ℕ) (new : Runner) : Type 0 where
  pub event : Event
  pub there : slice_get old.history.items (length old.history.items - 1) ≡ Some event
  pub lanes : Sends old.lanes node (length old.history.items - 1) event.done.letters new.lanes
