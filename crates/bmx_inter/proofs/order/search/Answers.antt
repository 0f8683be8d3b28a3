use Rattle.std.proofs.Common.{◌≡◌, ◌≤◌, false, length, is_some, ltb-false, sym, subst, ap, ◌∙◌, arith, rules}
use Rattle.std.proofs.lemmas.List.{get_or_default}
use Rattle.std.proofs.lemmas.List.Sorted.{IsPartitionPoint-from_clause}
use Rattle.bmx_types.specs.declared.names.Pair.{Pair}
use Rattle.bmx_inter.specs.Order.{is_ahead, is_same}
use Rattle.bmx_inter.proofs.Places.{is_ahead-partitioned, StandsAt-from_point, FitsAt-from_point}
use Rattle.bmx_inter.proofs.order.search.Goals as goal

pub returns-in-Some : goal.returns-in-Some
returns-in-Some g c =
    let i = c.partition_point-i.result in
    let xs = c.args.items.now in
    let point = IsPartitionPoint-from_clause (λ y. is_ahead (g.T.OfPair.pair_of y) c.args.pair) _ _ c.partition_point-i.ensures.partitioned (is_ahead-partitioned g.T.OfPair.pair_of xs c.args.pair c.requires) (λ a r q k. search rules) in
    let here = ap (λ (p : Pair). is_same p c.args.pair) (sym c.pair.ensures) ∙ sym c.is_same.ensures ∙ c.if-is_same.true in
    StandsAt-from_point g.T.OfPair.pair_of xs c.args.pair i c.in-Some.x.now c.requires point c.in-Some.ensures.lookup.3.0 c.in-Some.ensures.lookup.1 here

pub returns-in_default : goal.returns-in_default
returns-in_default g c =
    let i = c.partition_point-i.result in
    let xs = c.args.items.now in
    let point = IsPartitionPoint-from_clause (λ y. is_ahead (g.T.OfPair.pair_of y) c.args.pair) _ _ c.partition_point-i.ensures.partitioned (is_ahead-partitioned g.T.OfPair.pair_of xs c.args.pair c.requires) (λ a r q k. search rules) in
    let elsewhere = ap (λ (p : Pair). is_same p c.args.pair) (sym c.pair.ensures) ∙ sym c.is_same.ensures ∙ c.if-is_same.false in
    FitsAt-from_point g.T.OfPair.pair_of xs c.args.pair i c.requires point c.partition_point-i.ensures.bound
    (λ d within. subst (λ x. is_same (g.T.OfPair.pair_of x) c.args.pair ≡ false) (c.in-Some.ensures.lookup.1 ∙ get_or_default xs i c.in-Some.x.now d within) elsewhere)

pub returns-in_default-2 : goal.returns-in_default-2
returns-in_default-2 g c =
    let i = c.partition_point-i.result in
    let xs = c.args.items.now in
    let point = IsPartitionPoint-from_clause (λ y. is_ahead (g.T.OfPair.pair_of y) c.args.pair) _ _ c.partition_point-i.ensures.partitioned (is_ahead-partitioned g.T.OfPair.pair_of xs c.args.pair c.requires) (λ a r q k. search rules) in
    let past : length xs ≤ i = ltb-false i (length xs) (sym c.get.ensures.lookup.0 ∙ ap is_some c.in_default.is) in
    FitsAt-from_point g.T.OfPair.pair_of xs c.args.pair i c.requires point c.partition_point-i.ensures.bound (λ d within. absurd (omega arith))
