use Rattle.std.proofs.Common.{◌≡◌, ◌≢◌, length, ℕ, ◌-◌, ◌<◌, ◌≤◌}
use Rattle.std.specs.Prelude.{slice_get, Some}
use Rattle.bmx_token.specs.Nodes.{nodes_without}
use Rattle.bmx_token.proofs.nodes.leave.Given as goal

-- what stands before the place stays, and the rest is to be looked at
abbrev pub invariant-loop-place : goal.invariant-loop-place
invariant-loop-place l = record {
  same : nodes_without l.node l.nodes ≡ nodes_without l.node l.initial.nodes;
  within : l.place ≤ length l.nodes;
  passed : (k : ℕ) → k < l.place → slice_get l.nodes k ≢ Some l.node;
}

abbrev pub decreases-loop-place : goal.decreases-loop-place
decreases-loop-place l = length l.nodes - l.place
