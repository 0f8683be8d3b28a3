use Rattle.std.proofs.Common.{subst, ap, ◌∙◌, arith}
use Rattle.bmx_inter.specs.Inside.Search.{StandsAt, FitsAt}
use Rattle.bmx_inter.specs.Inside.Sides.{Sided, count_ahead}
use Rattle.bmx_inter.proofs.Ranks.{ahead-count}
use Rattle.bmx_inter.proofs.sorted.Sorted.ahead.Goals as goal

pub returns-in-Ok : goal.returns-in-Ok
returns-in-Ok g c =
    let pair_of = g.T.OfPair.pair_of in
    let at = subst (λ ys. StandsAt pair_of ys c.args.pair.now c.in-Ok.i) c.as_slice.ensures.value c.in-Ok.ensures in
    ahead-count pair_of c.self.inside.items.items c.args.pair.now c.in-Ok.i (omega (arith, at.within)) at.ahead ∙ ap (λ (v : Sided g.row.T.Denot). count_ahead pair_of c.args.pair.now v.list) c.self.view_is

pub returns-in-Ok-2 : goal.returns-in-Ok-2
returns-in-Ok-2 g c =
    let pair_of = g.T.OfPair.pair_of in
    let at = subst (λ ys. FitsAt pair_of ys c.args.pair.now c.in-Ok.i) c.as_slice.ensures.value c.in-Ok.ensures in
    ahead-count pair_of c.self.inside.items.items c.args.pair.now c.in-Ok.i at.within at.ahead ∙ ap (λ (v : Sided g.row.T.Denot). count_ahead pair_of c.args.pair.now v.list) c.self.view_is
