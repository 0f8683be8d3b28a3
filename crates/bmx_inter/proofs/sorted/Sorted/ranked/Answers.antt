use Rattle.std.proofs.Common.{◌≡◌, ◌≤◌, ◌<◌, ◌==◌, nat_lt, true, false, length, get_or, is_some, find, ltb-false, sym, subst, ap, ◌∙◌, arith, rules}
use Rattle.std.specs.List.Sorted.{IsPartitionPoint}
use Rattle.std.proofs.lemmas.List.{get_or_default}
use Rattle.std.proofs.lemmas.List.Sorted.{IsPartitionPoint-from_clause}
use Rattle.bmx_types.specs.declared.names.Pair.{Pair}
use Rattle.bmx_inter.specs.Order.{IsInOrder}
use Rattle.bmx_inter.specs.Inside.Sides.{Sided, rank_of}
use Rattle.bmx_inter.proofs.Ranks.{rank-partitioned, ranked-at, ranked-not_at}
use Rattle.bmx_inter.proofs.sorted.Sorted.ranked.Goals as goal
use Rattle.bmx_inter.proofs.sorted.Sorted.ranked.Goals.{in_default-via-in-Some+else-is_at, in_default-via-in_default}

pub returns-in-Some : goal.returns-in-Some
returns-in-Some g c =
    let pair_of = g.T.OfPair.pair_of in
    let all = c.args.all.now in
    let i = c.args.i in
    let j = c.partition_point-at.result in
    let xs = c.self.inside.items.items in
    let x = c.in-Some.x.now in
    let order = subst (IsInOrder pair_of) (sym c.deref.ensures.value) c.self.invariant in
    let from = IsPartitionPoint-from_clause (λ (y : g.row.T.Denot). nat_lt (rank_of pair_of (pair_of y) all) i) _ _ c.partition_point-at.ensures.partitioned (rank-partitioned pair_of all c.deref.result.now i order) (λ a r q k. search rules) in
    let point = subst (λ ys. IsPartitionPoint (λ y. nat_lt (rank_of pair_of (pair_of y) all) i ≡ true) (λ y. nat_lt (rank_of pair_of (pair_of y) all) i ≡ false) ys j) c.deref.ensures.value from in
    let within = subst (λ ys. j < length ys) c.deref-2.ensures.value c.in-Some.ensures.lookup.3.0 in
    let read = subst (λ ys. x ≡ get_or ys j x) c.deref-2.ensures.value c.in-Some.ensures.lookup.1 in
    let here = ap (λ (p : Pair). rank_of pair_of p all == i) (sym c.pair.ensures) ∙ sym c.is_at.ensures ∙ c.if-is_at.true in
    sym (ranked-at pair_of all xs i j x point within read here)
    ∙ ap (λ (v : Sided g.row.T.Denot). find (λ y. rank_of pair_of (pair_of y) all == i) v.list) c.self.view_is

pub returns-in_default : goal.returns-in_default
returns-in_default g c =
    let pair_of = g.T.OfPair.pair_of in
    let all = c.args.all.now in
    let i = c.args.i in
    let j = c.partition_point-at.result in
    let xs = c.self.inside.items.items in
    let order = subst (IsInOrder pair_of) (sym c.deref.ensures.value) c.self.invariant in
    let from = IsPartitionPoint-from_clause (λ (y : g.row.T.Denot). nat_lt (rank_of pair_of (pair_of y) all) i) _ _ c.partition_point-at.ensures.partitioned (rank-partitioned pair_of all c.deref.result.now i order) (λ a r q k. search rules) in
    let point = subst (λ ys. IsPartitionPoint (λ y. nat_lt (rank_of pair_of (pair_of y) all) i ≡ true) (λ y. nat_lt (rank_of pair_of (pair_of y) all) i ≡ false) ys j) c.deref.ensures.value from in
    let not_here : (d : g.row.T.Denot) → j < length xs → (rank_of pair_of (pair_of (get_or xs j d)) all == i) ≡ false = λ d within. elim c.in_default.branch [
      | in_default-via-in-Some+else-is_at w ↦
          let elsewhere = ap (λ (p : Pair). rank_of pair_of p all == i) (sym w.pair.ensures) ∙ sym w.is_at.ensures ∙ w.if-is_at.false in
          let read = subst (λ ys. w.in-Some.x.now ≡ get_or ys j w.in-Some.x.now) c.deref-2.ensures.value w.in-Some.ensures.lookup.1 in
          subst (λ y. (rank_of pair_of (pair_of y) all == i) ≡ false) (read ∙ get_or_default xs j w.in-Some.x.now d within) elsewhere
      | in_default-via-in_default w ↦
          let past : length c.deref-2.result.now ≤ j = ltb-false j (length c.deref-2.result.now) (sym c.get.ensures.lookup.0 ∙ ap is_some w.in_default.is) in
          let short : length xs ≤ j = subst (λ ys. length ys ≤ j) c.deref-2.ensures.value past in
          absurd (omega (arith, short, within))
    ] in
    sym (ranked-not_at pair_of all xs i j c.self.invariant point not_here)
    ∙ ap (λ (v : Sided g.row.T.Denot). find (λ y. rank_of pair_of (pair_of y) all == i) v.list) c.self.view_is
