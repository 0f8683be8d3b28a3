use Rattle.std.proofs.Common.{◌≤◌, ◌<◌, length, All, subst, ◌∙◌, rules}
use Rattle.std.proofs.lemmas.List.{length-set, take_all}
use Rattle.bmx_inter.specs.Inside.Sides.{Sided}
use Rattle.bmx_inter.proofs.Sides.{list-kept, spare-kept, All-grown}
use Rattle.bmx_inter.proofs.side.reserve_each.Goals as goal

pub returns-in_err-reserve-clause-spare : goal.returns-in_err-reserve-clause-spare
returns-in_err-reserve-clause-spare g c = λ room roomy.
    spare-kept c.loop-b.bunches.items c.loop-b.b c.index_mut.result.now c.reserve.new.self room (search rules) c.index_mut.ensures.value c.reserve.ensures.spare (c.loop-b.invariant.2 room roomy)

pub loop-b-preserved : goal.loop-b-preserved
loop-b-preserved g c =
    let within : c.loop-b.b < length c.loop-b.bunches.items = search rules in (
      λ k d. list-kept c.loop-b.bunches.items c.loop-b.b c.index_mut.result.now c.reserve.new.self within c.index_mut.ensures.value c.reserve.ensures.list k d ∙ c.loop-b.invariant.0 k d,
      All-grown c.loop-b.bunches.items c.loop-b.b c.index_mut.result.now c.reserve.new.self c.args.n within c.in_ok-reserve.ensures.ok c.loop-b.invariant.1,
      λ room roomy. spare-kept c.loop-b.bunches.items c.loop-b.b c.index_mut.result.now c.reserve.new.self room within c.index_mut.ensures.value c.reserve.ensures.spare (c.loop-b.invariant.2 room roomy),
      length-set c.loop-b.bunches.items c.loop-b.b c.reserve.new.self ∙ c.loop-b.invariant.3,
    )

pub returns-clause-ok : goal.returns-clause-ok
returns-clause-ok g c =
    let whole : length c.loop-b.bunches.items ≤ c.loop-b.b = search rules in
    subst (All (λ (s : Sided g.row.T.Denot). c.args.n ≤ s.spare)) (take_all c.loop-b.b c.loop-b.bunches.items whole) c.loop-b.invariant.1
