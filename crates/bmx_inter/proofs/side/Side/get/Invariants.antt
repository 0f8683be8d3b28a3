use Rattle.std.proofs.Common.{◌≡◌, ◌==◌, take, find, None, All}
use Rattle.bmx_inter.specs.Inside.Sides.{rank_of}
use Rattle.bmx_inter.proofs.side.Side.get.Given as goal

abbrev pub invariant-loop-sorted : goal.invariant-loop-sorted
invariant-loop-sorted g l = All (λ s. find (λ x. rank_of g.T.OfPair.pair_of (g.T.OfPair.pair_of x) l.all == l.i) s.list ≡ None) (take l.sorted-index l.all)
