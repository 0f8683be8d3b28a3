use Rattle.std.proofs.Common.{◌≤◌, subst, sym, ◌∙◌, arith}
use Rattle.bmx_types.specs.declared.addresses.Info.{Info}
use Rattle.bmx_protocol.proofs.Basics.{none_some}
use Rattle.bmx_memory.specs.Shown.{shown}
use Rattle.bmx_node.proofs.Firsts.{tells, is_told, is_small, it_fits, heard_more, heard_all}
use Rattle.bmx_node.proofs.others.heard_memory.Goals as goal

pub unreachable-requires : goal.unreachable-requires
unreachable-requires c =
    none_some (sym c.in_default.is ∙ tells c.args.opening.now c.anchors-anchors.result.now c.anchors-anchors.ensures.anchors c.loop-birth.birth-index c.birth-item.result c.loop-birth-test.true c.birth-item.is
    (shown c.args.born.now) c.info.result c.requires.born c.info.ensures)

pub learn-requires-clause-few : goal.learn-requires-clause-few
learn-requires-clause-few c =
    let told = is_told c.args.opening.now c.anchors-anchors.result.now c.anchors-anchors.ensures.anchors c.loop-birth.birth-index c.birth-item.result c.loop-birth-test.true c.birth-item.is
    (shown c.args.born.now) c.info.result c.in-Some.info c.requires.born c.info.ensures c.in-Some.is in
    subst (λ (i : Info). i.size ≤ 32) (sym told)
    (is_small c.args.opening.now c.anchors-anchors.result.now c.anchors-anchors.ensures.anchors c.loop-birth.birth-index c.birth-item.result c.loop-birth-test.true c.birth-item.is)

pub learn-requires-clause-fits : goal.learn-requires-clause-fits
learn-requires-clause-fits c =
    let told = is_told c.args.opening.now c.anchors-anchors.result.now c.anchors-anchors.ensures.anchors c.loop-birth.birth-index c.birth-item.result c.loop-birth-test.true c.birth-item.is
    (shown c.args.born.now) c.info.result c.in-Some.info c.requires.born c.info.ensures c.in-Some.is in
    it_fits c.args.opening.now c.anchors-anchors.result.now c.anchors-anchors.ensures.anchors c.loop-birth.birth-index c.birth-item.result c.loop-birth-test.true c.birth-item.is
    c.args.me c.in-Some.info told (shown c.loop-birth.memory) c.loop-birth.invariant.shown c.requires.other

pub loop-birth-preserved : goal.loop-birth-preserved
loop-birth-preserved c =
    let told = is_told c.args.opening.now c.anchors-anchors.result.now c.anchors-anchors.ensures.anchors c.loop-birth.birth-index c.birth-item.result c.loop-birth-test.true c.birth-item.is
    (shown c.args.born.now) c.info.result c.in-Some.info c.requires.born c.info.ensures c.in-Some.is in
    record {
      shown = c.learn.ensures.shown
          ∙ heard_more c.args.opening.now c.anchors-anchors.result.now c.anchors-anchors.ensures.anchors c.loop-birth.birth-index c.birth-item.result c.loop-birth-test.true c.birth-item.is
          c.args.me c.in-Some.info told (shown c.loop-birth.memory) c.loop-birth.invariant.shown;
      room = omega (arith, c.learn.ensures.room, c.loop-birth.invariant.room);
    }

pub returns : goal.returns
returns c = c.loop-birth.invariant.shown ∙ heard_all c.args.opening.now c.anchors-anchors.result.now c.anchors-anchors.ensures.anchors c.args.me c.loop-birth.birth-index c.loop-birth-test.false
