use Rattle.std.proofs.Common.{◌≡◌, true, sym, ap, ◌∙◌}
use Rattle.std.specs.Prelude.{Some, slice_get}
use Rattle.std.proofs.lemmas.Option.{slice_get-get_or}
use Rattle.bmx_script.specs.declared.lines.Line.{Line}
use Rattle.bmx_world.specs.Inside.Printing.{is_order_to}
use Rattle.bmx_world.proofs.Placed.{stops_at}
use Rattle.bmx_world.proofs.texts.next_order.Goals as goal

pub returns-then-is_order_to : goal.returns-then-is_order_to
returns-then-is_order_to c =
    let l : Line = c.index-lines-at.result in
    let is = c.index-lines-at.is in
    let told = c.is_order_to.ensures in
    let yes = c.if-is_order_to.true in
    let order : is_order_to c.args.node l.what ≡ true = cc in
    let there : slice_get c.args.lines.now c.loop-at.at ≡ Some l = slice_get-get_or c.args.lines.now c.loop-at.at l c.loop-at-test.true ∙ ap Some (sym is) in
    stops_at c.args.lines.now c.args.node c.args.from c.loop-at.at l c.loop-at-test.true is there order c.loop-at.invariant
