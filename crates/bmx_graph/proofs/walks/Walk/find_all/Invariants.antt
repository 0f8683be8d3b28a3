use Rattle.std.proofs.Common.{take}
use Rattle.bmx_graph.specs.Inside.Walks.{GoesTo}
use Rattle.bmx_graph.proofs.walks.Walk.find_all.Given as goal

abbrev pub invariant-loop-value : goal.invariant-loop-value
invariant-loop-value l = GoesTo (take l.value-index l.values) l.initial.self l.self
