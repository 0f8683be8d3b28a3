use Rattle.std.proofs.Common.{ap, ◌∙◌}
use Rattle.bmx_owner.specs.Records.{Entering}
use Rattle.bmx_mail.proofs.Giving.{there_is_room, given_more, given_same, spare_more, spare_same}
use Rattle.bmx_mail.proofs.mail.give_fields.Goals.{in-Ref, in_default}
use Rattle.bmx_mail.proofs.mail.give_fields.Goals as goal

pub give-requires : goal.give-requires
give-requires c =
    there_is_room c.args.fields.now c.loop-field.field-index c.field-item.result c.loop-field-test.true c.field-item.is
    c.args.records.now.spare c.loop-field.records.spare c.in-Ref.info c.in-Ref.is c.requires c.loop-field.invariant.1

pub loop-field-preserved : goal.loop-field-preserved
loop-field-preserved c =
    let fields = c.args.fields.now in
    let k = c.loop-field.field-index in
    let f = c.field-item.result in
    let records = c.args.records.now.list in
    let room = c.args.records.now.spare in
    elim c.match-field.branch [
      | in-Ref w ↦ (
        given_more fields k f c.loop-field-test.true c.field-item.is records c.loop-field.records.list _ c.args.to c.args.seq w.in-Ref.info w.in-Ref.is
            c.loop-field.invariant.0 (ap (λ (e : Entering). e.list) w.records-is ∙ w.give.ensures.list),
        spare_more fields k f c.loop-field-test.true c.field-item.is room c.loop-field.records.spare _ w.in-Ref.info w.in-Ref.is
            c.loop-field.invariant.1 (rw w.records-is w.give.ensures.spare),
      )
      | in_default w ↦ (
        given_same fields k f c.loop-field-test.true c.field-item.is records _ c.args.to c.args.seq w.in_default.not-Ref
            (ap (λ (e : Entering). e.list) w.records-is ∙ c.loop-field.invariant.0),
        spare_same fields k f c.loop-field-test.true c.field-item.is room _ w.in_default.not-Ref (rw w.records-is c.loop-field.invariant.1),
      )
    ]
