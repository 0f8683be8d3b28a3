use Rattle.std.proofs.Common.{◌≡◌, ◌∙◌, arith, ap, sym, subst, length}
use Rattle.std.specs.Prelude.{IsSome, All, slice_get, Some}
use Rattle.bmx_types.specs.Updates.{put}
use Rattle.bmx_memory.specs.Shown.{Shown, shown, with_stored, value_of, HasEntry}
use Rattle.bmx_node.proofs.Placing.{got_is, filled, filled_none, filled_more, filled_field, filled_entry, partly_all}
use Rattle.bmx_node.proofs.births.fill.Goals as goal

pub loop-i-init : goal.loop-i-init
loop-i-init c = filled_none (shown c.args.memory.now) c.args.birth.now c.requires.blank

pub write_field-requires-clause-field : goal.write_field-requires-clause-field
write_field-requires-clause-field c =
    subst (λ (m : Shown). IsSome (value_of m c.args.birth.now.name c.loop-i.i)) (sym c.loop-i.invariant)
    (filled_field (shown c.args.memory.now) c.args.birth.now c.loop-i.i (omega (arith, c.loop-i-test.true, c.len-i-end.ensures)))

pub write_field-requires-clause-known : goal.write_field-requires-clause-known
write_field-requires-clause-known c =
    subst (λ (m : Shown). HasEntry m c.at.result.now) (sym c.loop-i.invariant)
    (filled_entry (shown c.args.memory.now) c.args.birth.now c.loop-i.i c.at.result.now (subst (λ v. HasEntry (shown c.args.memory.now) v) (got_is c.args.birth.now.fields c.loop-i.i c.at.result.now c.at.result.now c.at.ensures)
    (c.requires.known c.loop-i.i c.at.result.now (omega (arith, c.loop-i-test.true, c.len-i-end.ensures)))))

pub loop-i-preserved : goal.loop-i-preserved
loop-i-preserved c =
    c.write_field.ensures.shown ∙ ap (λ (m : Shown). with_stored m c.args.birth.now.name c.loop-i.i c.at.result.now) c.loop-i.invariant
    ∙ filled_more (shown c.args.memory.now) c.args.birth.now c.loop-i.i c.at.result.now c.at.ensures

pub returns : goal.returns
returns c =
    c.loop-i.invariant ∙ ap (filled (shown c.args.memory.now) c.args.birth.now) (omega (arith, c.loop-i-test.false, c.loop-i.auto.i-end, c.len-i-end.ensures))
    ∙ (λ j. record (shown c.args.memory.now) { object = put (shown c.args.memory.now).object c.args.birth.now.name (Some (partly_all c.args.birth.now j)) })
