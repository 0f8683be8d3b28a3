use Rattle.std.proofs.Common.{◌≡◌, [], replicate}
use Rattle.bmx_lanes.proofs.lanes.Lanes.new.Given as goal

abbrev pub invariant-loop : goal.invariant-loop
invariant-loop g l = l.inboxes.items ≡ replicate l.counter (replicate 8 [])
