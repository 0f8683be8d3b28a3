use Rattle.std.proofs.Common.{sym, ◌∙◌}
use Rattle.bmx_node.proofs.Screening.{bad_more, bad_same, bad_found}
use Rattle.bmx_node.proofs.strays.Screen.has_bad_info.Goals.{in-Ref+else-is_bad_info, in_default}
use Rattle.bmx_node.proofs.strays.Screen.has_bad_info.Goals as goal

pub returns-then-is_bad_info : goal.returns-then-is_bad_info
returns-then-is_bad_info c st s g =
    sym (bad_found c.args.fields.now c.loop-field.field-index c.field-item.result c.loop-field-test.true c.field-item.is st c.args.self.now.me s c.in-Ref.info c.in-Ref.is
    (sym (c.is_bad_info.ensures st s g) ∙ c.if-is_bad_info.true))

pub loop-field-preserved : goal.loop-field-preserved
loop-field-preserved c =
    elim c.match-field.branch [
      | in-Ref+else-is_bad_info w ↦ (λ st s g. bad_more c.args.fields.now c.loop-field.field-index c.field-item.result c.loop-field-test.true c.field-item.is st c.args.self.now.me s w.in-Ref.info w.in-Ref.is
          (sym (w.is_bad_info.ensures st s g) ∙ w.if-is_bad_info.false) (c.loop-field.invariant st s g))
      | in_default w ↦ (λ st s g. bad_same c.args.fields.now c.loop-field.field-index c.field-item.result c.loop-field-test.true c.field-item.is st c.args.self.now.me s w.in_default.not-Ref (c.loop-field.invariant st s g))
    ]
