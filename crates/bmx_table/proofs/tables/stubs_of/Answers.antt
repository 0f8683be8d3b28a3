use Rattle.std.proofs.Common.{◌≡◌, length, take, slice_get, sym, ap, ◌∙◌, subst, arith}
use Rattle.bmx_table.proofs.Prefixes.{prefix-more, prefix-all}
use Rattle.bmx_table.proofs.tables.stubs_of.Goals as goal

pub loop-pair-preserved : goal.loop-pair-preserved
loop-pair-preserved g c =
    let xs = g.R.Rows.stubs c.args.rows.now c.args.bunch in
    let read = c.loop-pair.pairs.items in
    let n : length read ≡ c.len.result = omega (arith, c.loop-pair.pairs.ok.0) in
    let at = ap (slice_get xs) n ∙ sym c.in-Some.ensures in
    subst (λ ys. take (length ys) xs ≡ ys) (sym c.in_ok-push.ensures.items) (prefix-more xs read c.in-Some.pair c.loop-pair.invariant at)

pub returns : goal.returns
returns g c =
    let xs = g.R.Rows.stubs c.args.rows.now c.args.bunch in
    let read = c.loop-pair.pairs.items in
    let n : length read ≡ c.len.result = omega (arith, c.loop-pair.pairs.ok.0) in
    let at = ap (slice_get xs) n ∙ sym c.in_default.ensures in
    c.from_vec.ensures ∙ prefix-all xs read c.loop-pair.invariant at
