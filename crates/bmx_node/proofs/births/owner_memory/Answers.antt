use Rattle.std.proofs.Common.{◌≡◌, ℕ, ◌+◌, ◌∙◌, arith, ap, sym, subst, refl, length}
use Rattle.std.specs.Prelude.{IfSome, Some, None, All, slice_get}
use Rattle.bmx_types.specs.Openings.{bunches_of}
use Rattle.bmx_types.specs.declared.values.Val.TheVariants as val
use Rattle.bmx_types.specs.Updates.{put}
use Rattle.bmx_protocol.specs.Places.{no_places}
use Rattle.bmx_memory.specs.Shown.{Shown, shown, HasEntry}
use Rattle.bmx_node.specs.Inside.Births.{blank_until, setting_of, born_object}
use Rattle.bmx_node.proofs.Placing.{item_got, limit_until, written_until, written_blank, written_known, written_more, written_all}
use Rattle.bmx_node.proofs.births.owner_memory.Goals as goal

pub loop-bunch-init : goal.loop-bunch-init
loop-bunch-init c = record {
  shown = c.new-memory.ensures ∙ (λ j. record { me = first j; limit = c.args.opening.now.limit; object = λ name. None; places = no_places; register = λ r. val.Null });
  births = c.as_slice-births.ensures;
}
  where
    first : c.unwrap-owner.result ≡ 0
    first = subst (λ o. IfSome o (λ node. node ≡ 0)) c.unwrap-owner.ensures c.new.ensures.value

pub place_bunch-requires-clause-shown : goal.place_bunch-requires-clause-shown
place_bunch-requires-clause-shown c =
    let limit : (shown c.loop-bunch.memory).limit ≡ c.args.opening.now.limit = ap (λ (m : Shown). m.limit) c.loop-bunch.invariant.shown ∙ limit_until c.args.opening.now.limit c.args.opening.now.births c.loop-bunch.bunch in
    c.loop-bunch.invariant.shown ∙ (λ j. blank_until (sym limit j) (sym c.loop-bunch.invariant.births j) c.loop-bunch.bunch)

pub loop-bunch-preserved : goal.loop-bunch-preserved
loop-bunch-preserved c =
    let limit : (shown c.loop-bunch.memory).limit ≡ c.args.opening.now.limit = ap (λ (m : Shown). m.limit) c.loop-bunch.invariant.shown ∙ limit_until c.args.opening.now.limit c.args.opening.now.births c.loop-bunch.bunch in
    record {
      shown = c.in_ok-place_bunch.ensures ∙ (λ j. blank_until (limit j) (c.loop-bunch.invariant.births j) (c.loop-bunch.bunch + 1));
      births = c.loop-bunch.invariant.births;
    }

pub loop-birth-init : goal.loop-birth-init
loop-birth-init c = record {
  shown = c.loop-bunch.invariant.shown ∙ ap (blank_until c.args.opening.now.limit c.args.opening.now.births) last;
  births = c.loop-bunch.invariant.births;
}
  where
    last : c.loop-bunch.bunch ≡ bunches_of c.args.opening.now.births
    last = omega (arith, c.loop-bunch-test.false, c.loop-bunch.auto.bunch-end, c.bunches_of-bunch-end.ensures ∙ ap bunches_of c.as_slice-births.ensures)

pub fill-requires-clause-blank : goal.fill-requires-clause-blank
fill-requires-clause-blank c =
    ap (λ (m : Shown). m.object c.birth-item.result.name) c.loop-birth.invariant.shown
    ∙ written_blank c.args.opening.now.limit c.args.opening.now.births c.args.opening.now.opened.born c.loop-birth.birth-index c.birth-item.result there
  where
    there : slice_get c.args.opening.now.births c.loop-birth.birth-index ≡ Some c.birth-item.result
    there = sym (ap (λ bs. slice_get bs c.loop-birth.birth-index) c.as_slice-births.ensures) ∙ item_got c.as_slice-births.result.now c.loop-birth.birth-index c.birth-item.result c.loop-birth-test.true c.birth-item.is

pub fill-requires-clause-known : goal.fill-requires-clause-known
fill-requires-clause-known c =
    subst (λ (m : Shown). All (λ v. HasEntry m v) c.birth-item.result.fields) (sym c.loop-birth.invariant.shown)
    (written_known c.args.opening.now.limit c.args.opening.now.births c.args.opening.now.opened.born c.loop-birth.birth-index c.birth-item.result there)
  where
    there : slice_get c.args.opening.now.births c.loop-birth.birth-index ≡ Some c.birth-item.result
    there = sym (ap (λ bs. slice_get bs c.loop-birth.birth-index) c.as_slice-births.ensures) ∙ item_got c.as_slice-births.result.now c.loop-birth.birth-index c.birth-item.result c.loop-birth-test.true c.birth-item.is

pub loop-birth-preserved : goal.loop-birth-preserved
loop-birth-preserved c = record {
  shown = c.fill.ensures
      ∙ (λ j. record (c.loop-birth.invariant.shown j) { object = put (c.loop-birth.invariant.shown j).object c.birth-item.result.name (Some (born_object c.birth-item.result)) })
      ∙ written_more c.args.opening.now.limit c.args.opening.now.births c.loop-birth.birth-index c.birth-item.result there;
  births = c.loop-birth.invariant.births;
}
  where
    there : slice_get c.args.opening.now.births c.loop-birth.birth-index ≡ Some c.birth-item.result
    there = sym (ap (λ bs. slice_get bs c.loop-birth.birth-index) c.as_slice-births.ensures) ∙ item_got c.as_slice-births.result.now c.loop-birth.birth-index c.birth-item.result c.loop-birth-test.true c.birth-item.is

pub returns : goal.returns
returns c =
    c.loop-birth.invariant.shown ∙ ap (written_until c.args.opening.now.limit c.args.opening.now.births) last
    ∙ written_all (setting_of c.args.opening.now) c.args.opening.now.opened
  where
    last : c.loop-birth.birth-index ≡ length c.args.opening.now.births
    last = omega (arith, c.loop-birth-test.false, c.loop-birth.auto.birth-index-end, ap length c.as_slice-births.ensures)
