use Rattle.std.proofs.Common.{◌<◌, ◌-◌, length, set, ap, sym, ◌∙◌}
use Rattle.std.proofs.lemmas.List.{length-set}
use Rattle.bmx_inter.specs.Order.{with_one}
use Rattle.bmx_inter.specs.Inside.Sides.{Sided}
use Rattle.bmx_inter.proofs.Sides.{put-here, put-beside, put-elsewhere, put-spare, Kept-put, merged-put, has_bunches, spare-kept}
use Rattle.bmx_inter.proofs.side.Side.put.Goals as goal

pub invariant_of-self : goal.invariant_of-self
invariant_of-self g c =
    let pair_of = g.T.OfPair.pair_of in
    let bunch_of = g.T.OfBunch.bunch_of in
    let all = c.self.inside.bunches.items in
    let some : 0 < c.self.inside.room = rw (← c.self.view_is) at c.requires in
    let b = c.get-bunch.result in
    let within : b < length all = has_bunches pair_of bunch_of all c.self.inside.room b c.self.invariant some c.get-bunch.ensures.bound in
    Kept-put pair_of bunch_of all c.take_out_elsewhere.new.bunches.items c.self.inside.room (c.self.inside.room - 1) c.args.item b c.self.invariant (c.get-bunch.ensures.value ∙ c.bunch.ensures) within
    (c.take_out_elsewhere.ensures.count ∙ length-set all b c.put.new.self)
    (λ d lt. ap (λ (s : Sided g.row.T.Denot). s.list) (c.take_out_elsewhere.ensures.here d) ∙ put-here pair_of all b c.args.item c.index_mut.result.now c.put.new.self within c.index_mut.ensures.value c.put.ensures.list d)
    (λ k d lt apart. put-elsewhere pair_of all c.take_out_elsewhere.new.bunches.items b c.args.item c.put.new.self c.pair.result c.pair.ensures c.take_out_elsewhere.ensures.elsewhere k d lt apart)
    (c.take_out_elsewhere.ensures.spare (c.self.inside.room - 1) (put-spare g.T.OfPair.pair_of all b c.index_mut.result.now c.put.new.self c.self.inside.room within c.index_mut.ensures.value c.put.ensures.spare c.self.invariant.roomy))

pub returns-then-put-clause-list : goal.returns-then-put-clause-list
returns-then-put-clause-list g c =
    let pair_of = g.T.OfPair.pair_of in
    let bunch_of = g.T.OfBunch.bunch_of in
    let all = c.self.inside.bunches.items in
    let some : 0 < c.self.inside.room = rw (← c.self.view_is) at c.requires in
    let b = c.get-bunch.result in
    let within : b < length all = has_bunches pair_of bunch_of all c.self.inside.room b c.self.invariant some c.get-bunch.ensures.bound in
    merged-put pair_of bunch_of all c.take_out_elsewhere.new.bunches.items c.self.inside.room (c.self.inside.room - 1) c.args.item b c.self.invariant (c.get-bunch.ensures.value ∙ c.bunch.ensures) within
    (c.take_out_elsewhere.ensures.count ∙ length-set all b c.put.new.self)
    (λ d lt. ap (λ (s : Sided g.row.T.Denot). s.list) (c.take_out_elsewhere.ensures.here d) ∙ put-here pair_of all b c.args.item c.index_mut.result.now c.put.new.self within c.index_mut.ensures.value c.put.ensures.list d)
    (λ k d lt apart. put-elsewhere pair_of all c.take_out_elsewhere.new.bunches.items b c.args.item c.put.new.self c.pair.result c.pair.ensures c.take_out_elsewhere.ensures.elsewhere k d lt apart)
    ∙ ap (λ (v : Sided g.row.T.Denot). with_one pair_of c.args.item v.list) c.self.view_is

pub invariant_of-self-else-put : goal.invariant_of-self-else-put
invariant_of-self-else-put g c =
    let pair_of = g.T.OfPair.pair_of in
    let bunch_of = g.T.OfBunch.bunch_of in
    let all = c.self.inside.bunches.items in
    let some : 0 < c.self.inside.room = rw (← c.self.view_is) at c.requires in
    let b = c.get-bunch.result in
    let within : b < length all = has_bunches pair_of bunch_of all c.self.inside.room b c.self.invariant some c.get-bunch.ensures.bound in
    Kept-put pair_of bunch_of all (set all b c.put.new.self) c.self.inside.room c.self.inside.room c.args.item b c.self.invariant (c.get-bunch.ensures.value ∙ c.bunch.ensures) within
    (length-set all b c.put.new.self)
    (λ d lt. put-here pair_of all b c.args.item c.index_mut.result.now c.put.new.self within c.index_mut.ensures.value c.put.ensures.list d)
    (put-beside pair_of bunch_of all b c.args.item c.index_mut.result.now c.put.new.self c.self.inside.room c.self.invariant within c.index_mut.ensures.value (sym c.put.ensures.added ∙ c.if-put.false))
    (spare-kept all b c.index_mut.result.now c.put.new.self c.self.inside.room within c.index_mut.ensures.value (c.put.ensures.in_place c.if-put.false) c.self.invariant.roomy)

pub returns-else-put-clause-list : goal.returns-else-put-clause-list
returns-else-put-clause-list g c =
    let pair_of = g.T.OfPair.pair_of in
    let bunch_of = g.T.OfBunch.bunch_of in
    let all = c.self.inside.bunches.items in
    let some : 0 < c.self.inside.room = rw (← c.self.view_is) at c.requires in
    let b = c.get-bunch.result in
    let within : b < length all = has_bunches pair_of bunch_of all c.self.inside.room b c.self.invariant some c.get-bunch.ensures.bound in
    merged-put pair_of bunch_of all (set all b c.put.new.self) c.self.inside.room c.self.inside.room c.args.item b c.self.invariant (c.get-bunch.ensures.value ∙ c.bunch.ensures) within
    (length-set all b c.put.new.self)
    (λ d lt. put-here pair_of all b c.args.item c.index_mut.result.now c.put.new.self within c.index_mut.ensures.value c.put.ensures.list d)
    (put-beside pair_of bunch_of all b c.args.item c.index_mut.result.now c.put.new.self c.self.inside.room c.self.invariant within c.index_mut.ensures.value (sym c.put.ensures.added ∙ c.if-put.false))
    ∙ ap (λ (v : Sided g.row.T.Denot). with_one pair_of c.args.item v.list) c.self.view_is
