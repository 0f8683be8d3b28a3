use Rattle.std.proofs.Common.{Some, ap, ◌∙◌, arith}
use Rattle.bmx_types.specs.Updates.{put}
use Rattle.bmx_token.specs.Tokens.{owner_part}
use Rattle.bmx_tokens.specs.Tables.{part_of}
use Rattle.bmx_node.proofs.Firsts.{births_apart, no_part, part_more, all_owned}
use Rattle.bmx_node.proofs.others.owner_tokens.Goals as goal

pub add-requires-clause-none : goal.add-requires-clause-none
add-requires-clause-none c =
    let births = c.as_slice-births.result.now in
    no_part births c.loop-birth.birth-index c.birth-item.result c.loop-birth-test.true c.birth-item.is (λ b. owner_part) (part_of c.loop-birth.tokens)
    (births_apart c.args.opening.now births c.as_slice-births.ensures) c.loop-birth.invariant.parts

pub loop-birth-preserved : goal.loop-birth-preserved
loop-birth-preserved c =
    let births = c.as_slice-births.result.now in
    let b = c.birth-item.result in
    record {
      parts = part_more births c.loop-birth.birth-index b c.loop-birth-test.true c.birth-item.is (λ b. owner_part) (part_of c.loop-birth.tokens) (part_of c.add.new.self)
          c.loop-birth.invariant.parts (c.add.ensures.part ∙ ap (λ p. put (part_of c.loop-birth.tokens) b.name (Some p)) c.owner.ensures);
      me = c.add.ensures.me ∙ c.loop-birth.invariant.me;
      room = omega (arith, c.add.ensures.spare, c.loop-birth.invariant.room);
    }

pub returns-clause-parts : goal.returns-clause-parts
returns-clause-parts c =
    all_owned c.args.opening.now c.as_slice-births.result.now c.loop-birth.birth-index c.loop-birth-test.false (λ b. owner_part) (part_of c.loop-birth.tokens)
    c.as_slice-births.ensures c.loop-birth.invariant.parts
