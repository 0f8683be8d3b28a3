use Rattle.std.proofs.Common.{sym, ◌∙◌, ap, ◌+◌}
use Rattle.bmx_node.proofs.Screening.{count_more, count_same}
use Rattle.bmx_node.proofs.serving.names_brought.Goals.{in-Ref+else-count, in_default}
use Rattle.bmx_node.proofs.serving.names_brought.Goals as goal

pub loop-field-preserved : goal.loop-field-preserved
loop-field-preserved c =
    elim c.match-field.branch [
      | in-Ref+else-count w ↦ w.count-is ∙ count_more c.args.fields.now c.loop-field.field-index c.field-item.result c.loop-field-test.true c.field-item.is _ w.in-Ref._info w.in-Ref.is c.loop-field.invariant
      | in_default w ↦ w.count-is ∙ count_same c.args.fields.now c.loop-field.field-index c.field-item.result c.loop-field-test.true c.field-item.is _ w.in_default.not-Ref c.loop-field.invariant
    ]
