use Rattle.std.proofs.Common.{◌≡◌, Some, ap, ◌∙◌, arith, rules}
use Rattle.bmx_types.specs.Updates.{put}
use Rattle.bmx_token.specs.Tokens.{child_part}
use Rattle.bmx_tokens.specs.Tables.{part_of}
use Rattle.bmx_node.proofs.Firsts.{anchors_apart, no_part, part_more, all_heard}
use Rattle.bmx_node.proofs.others.heard_tokens.Goals as goal

pub add-requires-clause-none : goal.add-requires-clause-none
add-requires-clause-none c =
    let births = c.anchors-anchors.result.now in
    no_part births c.loop-birth.birth-index c.birth-item.result c.loop-birth-test.true c.birth-item.is (λ b. child_part 0) (part_of c.loop-birth.tokens)
    (anchors_apart c.args.opening.now births c.anchors-anchors.ensures.anchors) c.loop-birth.invariant.parts

pub loop-birth-preserved : goal.loop-birth-preserved
loop-birth-preserved c =
    let births = c.anchors-anchors.result.now in
    let b = c.birth-item.result in
    let zero : c.unwrap-owner.result ≡ 0 = search rules in
    record {
      parts = part_more births c.loop-birth.birth-index b c.loop-birth-test.true c.birth-item.is (λ b. child_part 0) (part_of c.loop-birth.tokens) (part_of c.add.new.self)
          c.loop-birth.invariant.parts (c.add.ensures.part ∙ ap (λ p. put (part_of c.loop-birth.tokens) b.name (Some p)) (c.child.ensures ∙ ap child_part zero));
      me = c.add.ensures.me ∙ c.loop-birth.invariant.me;
      room = omega (arith, c.add.ensures.spare, c.loop-birth.invariant.room);
    }

pub returns-clause-parts : goal.returns-clause-parts
returns-clause-parts c =
    all_heard c.args.opening.now c.anchors-anchors.result.now c.loop-birth.birth-index c.loop-birth-test.false (λ b. child_part 0) (part_of c.loop-birth.tokens)
    c.anchors-anchors.ensures.anchors c.loop-birth.invariant.parts
