use Rattle.std.proofs.Common.{◌≡◌, ℕ, ◌<◌, ◌≤◌, length, slice_index_or, None}
use Rattle.bmx_mark.proofs.fields.targets_of.Given as goal

abbrev pub invariant-loop-i : goal.invariant-loop-i
invariant-loop-i g l = record {
  known : (k : ℕ) → k < l.i → slice_index_or l.targets k None ≡ g.E.Edges.target_of l.edges l.name k;
  few : 0 < l.i → (k : ℕ) → 32 ≤ k → g.E.Edges.target_of l.edges l.name k ≡ None;
  long : length l.targets ≡ 32;
}
