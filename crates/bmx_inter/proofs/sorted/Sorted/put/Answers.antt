use Rattle.std.proofs.Common.{◌≡◌, true, is_ok, insert, sym, subst, ap, ◌∙◌, rules}
use Rattle.std.proofs.lemmas.Bool.{cond-true}
use Rattle.bmx_types.specs.declared.names.Pair.{Pair}
use Rattle.bmx_inter.specs.Order.{IsInOrder, with_one}
use Rattle.bmx_inter.specs.Inside.Search.{StandsAt, FitsAt}
use Rattle.bmx_inter.specs.Inside.Sides.{Sided}
use Rattle.bmx_inter.proofs.Places.{with_one-at, with_one-inserted}
use Rattle.bmx_inter.proofs.Found.{IsInOrder-with_one}
use Rattle.bmx_inter.proofs.sorted.Sorted.put.Goals as goal

pub invariant_of-self : goal.invariant_of-self
invariant_of-self g c =
    let pair_of = g.T.OfPair.pair_of in
    let items = c.self.inside.items.items in
    let at = subst (λ (p : Pair). StandsAt pair_of items p c.in-Ok.i) c.pair.ensures (subst (λ ys. StandsAt pair_of ys c.pair.result c.in-Ok.i) c.as_slice.ensures.value c.in-Ok.ensures) in
    subst (IsInOrder pair_of) (sym (with_one-at pair_of items c.args.item c.in-Ok.i at)) (IsInOrder-with_one pair_of c.args.item items c.self.invariant)

pub returns-in-Ok-clause-list : goal.returns-in-Ok-clause-list
returns-in-Ok-clause-list g c =
    let pair_of = g.T.OfPair.pair_of in
    let items = c.self.inside.items.items in
    let at = subst (λ (p : Pair). StandsAt pair_of items p c.in-Ok.i) c.pair.ensures (subst (λ ys. StandsAt pair_of ys c.pair.result c.in-Ok.i) c.as_slice.ensures.value c.in-Ok.ensures) in
    with_one-at pair_of items c.args.item c.in-Ok.i at ∙ ap (λ (v : Sided g.row.T.Denot). with_one pair_of c.args.item v.list) c.self.view_is

pub invariant_of-self-in-Err : goal.invariant_of-self-in-Err
invariant_of-self-in-Err g c =
    let pair_of = g.T.OfPair.pair_of in
    let items = c.self.inside.items.items in
    let at = subst (λ (p : Pair). FitsAt pair_of items p c.in-Err.i) c.pair.ensures (subst (λ ys. FitsAt pair_of ys c.pair.result c.in-Err.i) c.as_slice.ensures.value c.in-Err.ensures) in
    let ok : is_ok c.insert.result ≡ true = search rules in
    let now : c.insert.new.self.items ≡ insert items c.in-Err.i c.args.item = c.insert.ensures.items ∙ cond-true (is_ok c.insert.result) (insert items c.in-Err.i c.args.item) items ok in
    subst (IsInOrder pair_of) (sym (now ∙ with_one-inserted pair_of items c.args.item c.in-Err.i at)) (IsInOrder-with_one pair_of c.args.item items c.self.invariant)
