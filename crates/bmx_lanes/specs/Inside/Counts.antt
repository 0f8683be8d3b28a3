-- The kept count of an inbox.
use Rattle.std.specs.Prelude.{◌≡◌, ℕ, List}
use Rattle.bmx_lanes.specs.Sending.{lane_from, senders_below}

-- a number counts the lanes that have something, of the eight
pub record Counts {A : Type 0} (lanes : List (List A)) (senders : ℕ) : Type 0 where
  pub counted : senders ≡ senders_below (lane_from lanes) 8
