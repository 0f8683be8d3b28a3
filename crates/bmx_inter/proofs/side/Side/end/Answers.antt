use Rattle.std.proofs.Common.{◌<◌, length, not, filter, count_by, ap, ◌∙◌, rules}
use Rattle.bmx_inter.specs.Inside.Sides.{Sided, is_ended_in, merged}
use Rattle.bmx_inter.proofs.Changes.{ended-count}
use Rattle.bmx_inter.proofs.Sides.{Kept-ended, merged-ended}
use Rattle.bmx_inter.proofs.side.Side.end.Goals as goal

pub invariant_of-self : goal.invariant_of-self
invariant_of-self g c =
    let within : c.get-bunch.result < length c.self.inside.bunches.items = search rules in
    Kept-ended g.T.OfPair.pair_of g.T.OfBunch.bunch_of c.self.inside.bunches.items c.self.inside.room c.get-bunch.result (g.E.Ends.is_over c.args.test.now) c.index_mut.result.now c.end.new.self c.self.invariant within c.index_mut.ensures.value c.end.ensures.list c.end.ensures.spare

pub returns-then-bunch-len-clause-list : goal.returns-then-bunch-len-clause-list
returns-then-bunch-len-clause-list g c =
    let within : c.get-bunch.result < length c.self.inside.bunches.items = search rules in
    let over = g.E.Ends.is_over c.args.test.now in
    merged-ended g.T.OfPair.pair_of g.T.OfBunch.bunch_of c.self.inside.bunches.items c.self.inside.room c.get-bunch.result over c.index_mut.result.now c.end.new.self c.self.invariant within c.index_mut.ensures.value c.end.ensures.list
    ∙ ap (λ (v : Sided g.row.T.Denot). filter (λ x. not (is_ended_in g.T.OfBunch.bunch_of c.get-bunch.result over x)) v.list) c.self.view_is
    ∙ ap (λ b. filter (λ x. not (is_ended_in g.T.OfBunch.bunch_of b over x)) c.args.self.now.list) c.get-bunch.ensures.value

pub returns-then-bunch-len-clause-count : goal.returns-then-bunch-len-clause-count
returns-then-bunch-len-clause-count g c =
    let within : c.get-bunch.result < length c.self.inside.bunches.items = search rules in
    let over = g.E.Ends.is_over c.args.test.now in
    c.end.ensures.count
    ∙ ended-count g.T.OfPair.pair_of g.T.OfBunch.bunch_of c.self.inside.bunches.items (merged g.T.OfPair.pair_of c.self.inside.bunches.items) c.get-bunch.result over c.index_mut.result.now within c.index_mut.ensures.value c.self.invariant.parts
    ∙ ap (λ (v : Sided g.row.T.Denot). count_by (is_ended_in g.T.OfBunch.bunch_of c.get-bunch.result over) v.list) c.self.view_is
    ∙ ap (λ b. count_by (is_ended_in g.T.OfBunch.bunch_of b over) c.args.self.now.list) c.get-bunch.ensures.value
