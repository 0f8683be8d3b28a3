use Rattle.std.proofs.Common.{not, length, filter, sym, subst, ap, ◌∙◌, rules, arith}
use Rattle.std.proofs.lemmas.Fn.{filter_same}
use Rattle.bmx_shelves.proofs.Parts.{length-filter_not}
use Rattle.bmx_inter.specs.Order.{IsInOrder}
use Rattle.bmx_inter.specs.Inside.Sides.{Sided}
use Rattle.bmx_inter.proofs.Found.{IsInOrder-filter}
use Rattle.bmx_inter.proofs.sorted.Sorted.end.Goals as goal

pub invariant_of-self : goal.invariant_of-self
invariant_of-self g c =
    let over = g.E.Ends.is_over c.args.test.now in
    let left = filter_same _ (λ x. not (over x)) _ (λ x b f' k. search rules) _ _ c.retain.ensures.filtered in
    subst (IsInOrder g.T.OfPair.pair_of) (sym left) (IsInOrder-filter g.T.OfPair.pair_of (λ x. not (over x)) c.self.inside.items.items c.self.invariant)

pub returns-clause-list : goal.returns-clause-list
returns-clause-list g c =
    let over = g.E.Ends.is_over c.args.test.now in
    filter_same _ (λ x. not (over x)) _ (λ x b f' k. search rules) _ _ c.retain.ensures.filtered
    ∙ ap (λ (v : Sided g.row.T.Denot). filter (λ x. not (over x)) v.list) c.self.view_is

pub returns-clause-count : goal.returns-clause-count
returns-clause-count g c =
    let e = ap length (returns-clause-list g c) in
    let all = length-filter_not (g.E.Ends.is_over c.args.test.now) c.args.self.now.list in
    let same = ap (λ (v : Sided g.row.T.Denot). length v.list) c.self.view_is in
    omega (arith, e, all, same, c.self.inside.items.ok.0, c.retain.new.self.ok.0, c.len.ensures, c.len-before.ensures)
