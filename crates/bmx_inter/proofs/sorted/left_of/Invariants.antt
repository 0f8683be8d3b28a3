use Rattle.std.proofs.Common.{◌≡◌, ◌+◌, take}
use Rattle.bmx_inter.specs.Inside.Sides.{rank_of}
use Rattle.bmx_inter.proofs.sorted.left_of.Given as goal

abbrev pub invariant-loop-sorted : goal.invariant-loop-sorted
invariant-loop-sorted g l = l.left + rank_of g.T.OfPair.pair_of l.pair (take l.sorted-index l.all) ≡ l.i
