use Rattle.std.proofs.Common.{ℕ, ◌-◌, ◌^◌, Option, Some, None}
use Rattle.bmx_mark.proofs.Scanning.{IsScanning}
use Rattle.bmx_mark.proofs.mark.Mark.step.Given as goal

abbrev pub invariant-loop-target : goal.invariant-loop-target
invariant-loop-target g l = IsScanning (g.E.Edges.target_of l.edges) l.fn.self l.self l.floor

abbrev pub above : Option ℕ → ℕ
above None = 2 ^ 64
above (Some floor) = 2 ^ 64 - 1 - floor

abbrev pub decreases-loop-target : goal.decreases-loop-target
decreases-loop-target g l = above l.floor
