use Rattle.std.proofs.Common.{◌+◌, List, drop, filter_map, sym, subst}
use Rattle.bmx_types.specs.declared.addresses.Info.{Info}
use Rattle.bmx_protocol.specs.Rules.{info_in}
use Rattle.bmx_node.specs.declared.holdings.Holdings.{Holdings}
use Rattle.bmx_node.specs.Inside.Hearing.{CanHear}
use Rattle.bmx_node.proofs.Hearing.{Hearings, first_can, hearings_more, left_ref, left_other}
use Rattle.bmx_node.proofs.holdings.Holdings.hear_fields.Goals.{in-Ref, in_default}
use Rattle.bmx_node.proofs.holdings.Holdings.hear_fields.Goals as goal

pub hear-requires-clause-can : goal.hear-requires-clause-can
hear-requires-clause-can c =
    let fields = c.args.fields.now in
    let i = c.loop-field.field-index in
    first_can c.loop-field.self c.args.from c.in-Ref.info (filter_map info_in (drop (i + 1) fields))
    (subst (CanHear c.loop-field.self c.args.from) (left_ref fields i c.field-item.result c.loop-field-test.true c.field-item.is c.in-Ref.info c.in-Ref.is) c.loop-field.invariant.can)

pub loop-field-preserved : goal.loop-field-preserved
loop-field-preserved c =
    let h = c.args.self.now in
    let fields = c.args.fields.now in
    let i = c.loop-field.field-index in
    let left : List Info = filter_map info_in (drop (i + 1) fields) in
    let all : List Info = filter_map info_in fields in
    elim c.match-field.branch [
      | in-Ref w ↦ subst (λ (x : Holdings). Hearings h x c.args.from left all) (sym w.self-is)
          (hearings_more h c.loop-field.self w.hear.new.self c.args.from w.in-Ref.info left all
          (subst (λ (l : List Info). Hearings h c.loop-field.self c.args.from l all) (left_ref fields i c.field-item.result c.loop-field-test.true c.field-item.is w.in-Ref.info w.in-Ref.is) c.loop-field.invariant)
          w.hear.ensures.state w.hear.ensures.places w.hear.ensures.rooms w.hear.ensures.mail w.hear.ensures.made w.hear.ensures.keeps w.hear.ensures.frame)
      | in_default w ↦ subst (λ (x : Holdings). Hearings h x c.args.from left all) (sym w.self-is)
          (subst (λ (l : List Info). Hearings h c.loop-field.self c.args.from l all) (left_other fields i c.field-item.result c.loop-field-test.true c.field-item.is w.in_default.not-Ref) c.loop-field.invariant)
    ]
