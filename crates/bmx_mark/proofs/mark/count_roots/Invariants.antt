use Rattle.std.proofs.Common.{◌≤◌, ◌-◌, length}
use Rattle.bmx_mark.proofs.mark.count_roots.Given as goal

abbrev pub invariant-loop-bunch : goal.invariant-loop-bunch
invariant-loop-bunch g l = l.n ≤ length (g.E.Edges.roots l.edges l.bunch)

abbrev pub decreases-loop-bunch : goal.decreases-loop-bunch
decreases-loop-bunch g l = length (g.E.Edges.roots l.edges l.bunch) - l.n
