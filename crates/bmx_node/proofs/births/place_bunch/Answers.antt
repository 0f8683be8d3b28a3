use Rattle.std.proofs.Common.{◌≡◌, ◌∙◌, ◌<◌, arith, ap, sym, subst, length}
use Rattle.std.specs.Prelude.{slice_get, Some, None}
use Rattle.bmx_memory.specs.Shown.{Shown, shown, with_object}
use Rattle.bmx_node.specs.Inside.Births.{no_object, with_blanks}
use Rattle.bmx_protocol.proofs.Basics.{eqb_of, eqb_apart}
use Rattle.bmx_node.proofs.Placing.{until, item_got, fresh_birth, few_segments, blanks_more, blanks_same, blanks_begun, blanks_ended}
use Rattle.bmx_node.proofs.births.place_bunch.Goals.{then-get-bunch+in_ok-make_birth, else-get-bunch}
use Rattle.bmx_node.proofs.births.place_bunch.Goals as goal

pub loop-birth-init : goal.loop-birth-init
loop-birth-init c = c.requires.shown ∙ blanks_begun (shown c.args.memory.now).limit c.args.births.now c.args.bunch

pub make_birth-requires-clause-fresh : goal.make_birth-requires-clause-fresh
make_birth-requires-clause-fresh c =
    ap (λ (m : Shown). m.object c.birth-item.result.name) c.loop-birth.invariant
    ∙ fresh_birth (shown c.args.memory.now).limit c.args.births.now c.args.bunch c.loop-birth.birth-index c.birth-item.result c.requires.births
    (item_got c.args.births.now c.loop-birth.birth-index c.birth-item.result c.loop-birth-test.true c.birth-item.is) (sym c.get.ensures.value ∙ c.if-get-bunch.true)

pub make_birth-requires-clause-more : goal.make_birth-requires-clause-more
make_birth-requires-clause-more c =
    subst (λ (m : Shown). m.places.made < 65535) (sym c.loop-birth.invariant)
    (few_segments (shown c.args.memory.now).limit c.args.births.now c.args.bunch c.loop-birth.birth-index c.requires.births c.requires.bunch)

pub loop-birth-preserved : goal.loop-birth-preserved
loop-birth-preserved c = elim c.if-get-bunch.branch [
  | then-get-bunch+in_ok-make_birth w ↦
      ap shown w.memory-is ∙ w.in_ok-make_birth.ensures.ok
      ∙ (λ j. with_object (c.loop-birth.invariant j) c.birth-item.result.name c.birth-item.result.bunch (w.len.ensures j))
      ∙ blanks_more (no_object 0 (shown c.args.memory.now).limit) c.args.births.now c.args.bunch c.loop-birth.birth-index c.birth-item.result
      (item_got c.args.births.now c.loop-birth.birth-index c.birth-item.result c.loop-birth-test.true c.birth-item.is) (eqb_of (sym c.get.ensures.value ∙ w.if-get-bunch.true))
  | else-get-bunch w ↦
      ap shown w.memory-is ∙ c.loop-birth.invariant
      ∙ blanks_same (no_object 0 (shown c.args.memory.now).limit) c.args.births.now c.args.bunch c.loop-birth.birth-index c.birth-item.result
      (item_got c.args.births.now c.loop-birth.birth-index c.birth-item.result c.loop-birth-test.true c.birth-item.is)
      (eqb_apart c.birth-item.result.bunch c.args.bunch (λ e. w.if-get-bunch.false (c.get.ensures.value ∙ e)))
]

pub returns : goal.returns
returns c = c.loop-birth.invariant ∙ ap (λ i. with_blanks (no_object 0 (shown c.args.memory.now).limit) (until c.args.births.now c.args.bunch i)) (omega (arith, c.loop-birth-test.false, c.loop-birth.auto.birth-index-end))
    ∙ blanks_ended (shown c.args.memory.now).limit c.args.births.now c.args.bunch
