use Rattle.std.proofs.Common.{ap, ◌∙◌, inl}
use Rattle.bmx_inter.specs.Inside.Sides.{Sided}
use Rattle.bmx_inter.proofs.Sides.{Kept-begun, Kept-grown, merged-grown}
use Rattle.bmx_inter.proofs.side.Side.reserve.Goals as goal

pub invariant_of-self-in_err-reserve_each : goal.invariant_of-self-in_err-reserve_each
invariant_of-self-in_err-reserve_each g c =
    let begun = Kept-begun g.T.OfPair.pair_of g.T.OfBunch.bunch_of c.self.inside.bunches.items c.begin.new.bunches.items c.self.inside.room c.self.invariant c.in_ok-begin.ensures.ok in
    Kept-grown g.T.OfPair.pair_of g.T.OfBunch.bunch_of c.begin.new.bunches.items c.reserve_each.new.bunches.items c.self.inside.room c.self.inside.room begun.0 c.reserve_each.ensures.count c.reserve_each.ensures.lists (inl begun.1) (c.reserve_each.ensures.spare c.self.inside.room begun.0.roomy)

pub returns-in_err-reserve_each-clause-list : goal.returns-in_err-reserve_each-clause-list
returns-in_err-reserve_each-clause-list g c =
    let begun = Kept-begun g.T.OfPair.pair_of g.T.OfBunch.bunch_of c.self.inside.bunches.items c.begin.new.bunches.items c.self.inside.room c.self.invariant c.in_ok-begin.ensures.ok in
    merged-grown g.T.OfPair.pair_of g.T.OfBunch.bunch_of c.begin.new.bunches.items c.reserve_each.new.bunches.items c.self.inside.room c.self.inside.room begun.0 c.reserve_each.ensures.count c.reserve_each.ensures.lists
    ∙ begun.2
    ∙ ap (λ (v : Sided g.row.T.Denot). v.list) c.self.view_is

pub invariant_of-self-then-n-self : goal.invariant_of-self-then-n-self
invariant_of-self-then-n-self g c =
    let begun = Kept-begun g.T.OfPair.pair_of g.T.OfBunch.bunch_of c.self.inside.bunches.items c.begin.new.bunches.items c.self.inside.room c.self.invariant c.in_ok-begin.ensures.ok in
    Kept-grown g.T.OfPair.pair_of g.T.OfBunch.bunch_of c.begin.new.bunches.items c.reserve_each.new.bunches.items c.self.inside.room c.args.n begun.0 c.reserve_each.ensures.count c.reserve_each.ensures.lists (inl begun.1) c.in_ok-reserve_each.ensures.ok

pub returns-in_ok-reserve_each-clause-list : goal.returns-in_ok-reserve_each-clause-list
returns-in_ok-reserve_each-clause-list g c =
    let begun = Kept-begun g.T.OfPair.pair_of g.T.OfBunch.bunch_of c.self.inside.bunches.items c.begin.new.bunches.items c.self.inside.room c.self.invariant c.in_ok-begin.ensures.ok in
    merged-grown g.T.OfPair.pair_of g.T.OfBunch.bunch_of c.begin.new.bunches.items c.reserve_each.new.bunches.items c.self.inside.room c.args.n begun.0 c.reserve_each.ensures.count c.reserve_each.ensures.lists
    ∙ begun.2
    ∙ ap (λ (v : Sided g.row.T.Denot). v.list) c.self.view_is
