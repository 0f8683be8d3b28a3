use Rattle.std.proofs.Common.{rules, ◌≡◌, true, false, not, Some, None, IsSome, is_some, refl, sym, ◌∙◌, ap}
use Rattle.bmx_msg.specs.declared.letters.Msg.TheVariants as msg
use Rattle.bmx_token.specs.Transitions.{Returns}
use Rattle.bmx_tokens.specs.Tables.{part_of}
use Rattle.bmx_node.proofs.Operating.{frame_tokens, frame_same}
use Rattle.bmx_node.proofs.Notes.{takes_unknown, return_taken, return_stray, return_keeps}
use Rattle.bmx_node.proofs.holdings.Holdings.returned.Goals.{then-is_none-via-then-is_none, then-is_none-via-else-is_none+in_ok-ack+then-not-branch}
use Rattle.bmx_node.proofs.holdings.Holdings.returned.Goals as goal

pub returns-then-is_none-clause-takes : goal.returns-then-is_none-clause-takes
returns-then-is_none-clause-takes c =
    let h = c.args.self.now in
    let name = c.args.name in
    rw c.tell.ensures (elim c.then-is_none.branch [
      | then-is_none-via-then-is_none w ↦
          let none : part_of h.tokens name ≡ None = search rules in
          rw w.self-is (takes_unknown c.args.taking.stamp h c.args.taking.from c.args.taking.seq (msg.InvAck name) name Returns c.requires.keeps refl refl none refl)
      | then-is_none-via-else-is_none+in_ok-ack+then-not-branch w ↦
          let there : IsSome (part_of h.tokens name) = search rules in
          rw w.self-is (return_stray c.args.taking.stamp h c.args.taking.from c.args.taking.seq name c.requires.keeps there w.ack.new.self w.in_ok-ack.ensures.part (search rules))
    ])

pub returns-then-is_none-clause-keeps : goal.returns-then-is_none-clause-keeps
returns-then-is_none-clause-keeps c =
    let h = c.args.self.now in
    let name = c.args.name in
    elim c.then-is_none.branch [
      | then-is_none-via-then-is_none w ↦ rw w.self-is c.requires.keeps
      | then-is_none-via-else-is_none+in_ok-ack+then-not-branch w ↦
          let there : IsSome (part_of h.tokens name) = search rules in
          rw w.self-is (return_keeps c.args.taking.stamp h c.args.taking.from c.args.taking.seq name c.requires.keeps there w.ack.new.self h.mail w.in_ok-ack.ensures.part)
    ]

pub returns-then-is_none-clause-frame : goal.returns-then-is_none-clause-frame
returns-then-is_none-clause-frame c =
    let h = c.args.self.now in
    elim c.then-is_none.branch [
      | then-is_none-via-then-is_none w ↦ rw w.self-is (frame_same h)
      | then-is_none-via-else-is_none+in_ok-ack+then-not-branch w ↦ rw w.self-is (frame_tokens h w.ack.new.self h.mail)
    ]

pub returns-clause-takes : goal.returns-clause-takes
returns-clause-takes c =
    let h = c.args.self.now in
    let name = c.args.name in
    let there : IsSome (part_of h.tokens name) = search rules in
    rw c.tell-2.ensures (return_taken c.args.taking.stamp h c.args.taking.from c.args.taking.seq name c.requires.keeps there c.ack.new.self c.count_taken.new.self c.in_ok-ack.ensures.part (search rules) c.count_taken.ensures.change)

pub returns-clause-keeps : goal.returns-clause-keeps
returns-clause-keeps c =
    let h = c.args.self.now in
    let there : IsSome (part_of h.tokens c.args.name) = search rules in
    return_keeps c.args.taking.stamp h c.args.taking.from c.args.taking.seq c.args.name c.requires.keeps there c.ack.new.self c.count_taken.new.self c.in_ok-ack.ensures.part

pub returns-clause-frame : goal.returns-clause-frame
returns-clause-frame c = frame_tokens c.args.self.now c.ack.new.self c.count_taken.new.self
