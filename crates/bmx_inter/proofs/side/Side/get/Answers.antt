use Rattle.std.proofs.Common.{◌≡◌, ◌<◌, ◌≤◌, ◌==◌, ◌∙◌, List, length, find, None, Some, All, subst, sym, ap, slice_get, rules}
use Rattle.std.proofs.lemmas.List.{take_all}
use Rattle.std.proofs.lemmas.List.Elements.{All-more}
use Rattle.bmx_inter.specs.Order.{IsInOrder}
use Rattle.bmx_inter.specs.Inside.Sides.{Sided, AreParts, rank_of, merged}
use Rattle.bmx_inter.proofs.Merged.{merged-order}
use Rattle.bmx_inter.proofs.Ranks.{ranked-found, ranked-missed}
use Rattle.bmx_inter.proofs.Sides.{is_what_was_found, none_was_found}
use Rattle.bmx_inter.proofs.side.Side.get.Goals as goal

pub returns-then-is_some-clause-value : goal.returns-then-is_some-clause-value
returns-then-is_some-clause-value g c =
    let pair_of = g.T.OfPair.pair_of in
    let bunch_of = g.T.OfBunch.bunch_of in
    let all = c.as_slice-all.result.now in
    let list = merged pair_of c.self.inside.bunches.items in
    let parts = subst (λ ss. AreParts pair_of bunch_of ss list) (sym c.as_slice-all.ensures.value) c.self.invariant.parts in
    let bounded = subst (λ (ss : List (Sided g.row.T.Denot)). All (λ x. bunch_of x < length ss) list) (sym c.as_slice-all.ensures.value) c.self.invariant.bounded in
    let within : c.loop-sorted.sorted-index < length all = search rules in
    is_what_was_found c.ranked-found.result (slice_get list c.args.i) (sym c.is_some.ensures ∙ c.if-is_some.true)
    (λ x found. ranked-found pair_of bunch_of all list (merged-order pair_of c.self.inside.bunches.items) parts bounded c.args.i c.loop-sorted.sorted-index c.sorted-item.result x within
    (subst (λ (s : Sided g.row.T.Denot). find (λ y. rank_of pair_of (pair_of y) all == c.args.i) s.list ≡ Some x) c.sorted-item.is (sym c.ranked-found.ensures ∙ found)))
    ∙ ap (λ (v : Sided g.row.T.Denot). slice_get v.list c.args.i) c.self.view_is

pub returns-then-is_some-clause-order : goal.returns-then-is_some-clause-order
returns-then-is_some-clause-order g c = subst (λ (v : Sided g.row.T.Denot). IsInOrder g.T.OfPair.pair_of v.list) c.self.view_is (merged-order g.T.OfPair.pair_of c.self.inside.bunches.items)

pub loop-sorted-preserved : goal.loop-sorted-preserved
loop-sorted-preserved g c =
    let pair_of = g.T.OfPair.pair_of in
    let all = c.as_slice-all.result.now in
    let within : c.loop-sorted.sorted-index < length all = search rules in
    All-more (λ (s : Sided g.row.T.Denot). find (λ y. rank_of pair_of (pair_of y) all == c.args.i) s.list ≡ None) all c.loop-sorted.sorted-index c.sorted-item.result within c.loop-sorted.invariant
    (subst (λ (s : Sided g.row.T.Denot). find (λ y. rank_of pair_of (pair_of y) all == c.args.i) s.list ≡ None) c.sorted-item.is
    (sym c.ranked-found.ensures ∙ none_was_found c.ranked-found.result (sym c.is_some.ensures ∙ c.if-is_some.false)))

pub returns-clause-value : goal.returns-clause-value
returns-clause-value g c =
    let pair_of = g.T.OfPair.pair_of in
    let bunch_of = g.T.OfBunch.bunch_of in
    let all = c.as_slice-all.result.now in
    let list = merged pair_of c.self.inside.bunches.items in
    let parts = subst (λ ss. AreParts pair_of bunch_of ss list) (sym c.as_slice-all.ensures.value) c.self.invariant.parts in
    let bounded = subst (λ (ss : List (Sided g.row.T.Denot)). All (λ x. bunch_of x < length ss) list) (sym c.as_slice-all.ensures.value) c.self.invariant.bounded in
    let whole : length all ≤ c.loop-sorted.sorted-index = search rules in
    let missed = subst (All (λ (s : Sided g.row.T.Denot). find (λ y. rank_of pair_of (pair_of y) all == c.args.i) s.list ≡ None)) (take_all c.loop-sorted.sorted-index all whole) c.loop-sorted.invariant in
    sym (ranked-missed pair_of bunch_of all list (merged-order pair_of c.self.inside.bunches.items) parts bounded c.args.i missed)
    ∙ ap (λ (v : Sided g.row.T.Denot). slice_get v.list c.args.i) c.self.view_is

pub returns-clause-order : goal.returns-clause-order
returns-clause-order g c = subst (λ (v : Sided g.row.T.Denot). IsInOrder g.T.OfPair.pair_of v.list) c.self.view_is (merged-order g.T.OfPair.pair_of c.self.inside.bunches.items)
