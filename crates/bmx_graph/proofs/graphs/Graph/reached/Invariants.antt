use Rattle.std.proofs.Common.{◌-◌, ◌^◌}
use Rattle.bmx_graph.proofs.Reaching.{IsReaching}
use Rattle.bmx_graph.proofs.graphs.Graph.reached.Given as goal

abbrev pub invariant-loop-bunch : goal.invariant-loop-bunch
invariant-loop-bunch l = IsReaching l.self l.bunch 0 l.walk

abbrev pub invariant-loop-name : goal.invariant-loop-name
invariant-loop-name l = IsReaching l.self l.self.bunches l.next l.walk

abbrev pub decreases-loop-name : goal.decreases-loop-name
decreases-loop-name l = 2 ^ 64 - l.next
