use Rattle.std.proofs.Common.{sym, ◌∙◌}
use Rattle.bmx_tokens.proofs.Map.{OnErr-from}
use Rattle.bmx_node.proofs.Granting.{grant_frame, roomy_frame, roomy_node, roomy_tokens}
use Rattle.bmx_node.proofs.Moving.{all_posted, move_does, move_keeps, move_frame}
use Rattle.bmx_node.proofs.holdings.Holdings.hand_over.Goals as goal

pub returns-in_err-info-clause-err : goal.returns-in_err-info-clause-err
returns-in_err-info-clause-err c = OnErr-from c.from_residual-in_err-info.result (roomy_node c.args.self.now c.grant.new.self c.grant.ensures.rest)

pub returns-in_err-info-clause-frame : goal.returns-in_err-info-clause-frame
returns-in_err-info-clause-frame c = roomy_frame c.args.self.now c.grant.new.self c.grant.ensures.rest

pub returns-in_err-to-clause-err : goal.returns-in_err-to-clause-err
returns-in_err-to-clause-err c = OnErr-from c.from_residual-in_err-to.result (roomy_tokens c.args.self.now c.grant.new.self c.serve.new.self c.grant.ensures.rest c.in_err-to.ensures.err)

pub returns-in_err-to-clause-frame : goal.returns-in_err-to-clause-frame
returns-in_err-to-clause-frame c = grant_frame c.args.self.now c.grant.new.self c.serve.new.self c.grant.new.self.mail c.grant.ensures.rest

pub returns-clause-does : goal.returns-clause-does
returns-clause-does c =
    let g = c.grant.new.self in
    rw c.answer.ensures (move_does c.args.stamp c.args.self.now g c.args.name c.serve.new.self c.clear_copy.new.self c.post_asks.new.mail c.in-Moves.to _ _ c.in-Moves.rest c.as_slice.result.now c.post_asks.new.outbox.letters
    c.requires.keeps c.requires.there c.grant.ensures.rest c.in_ok-to.ensures.part (sym c.in-Moves.is ∙ c.in_ok-to.ensures.answer) c.as_slice.ensures
    c.in_ok-info.ensures.info c.in_ok-info.ensures.fields c.clear_copy.ensures.shown
    (all_posted c.args.stamp c.args.asked g.mail c.post.new.self c.post_asks.new.mail c.in-Moves.to c.args.name _ _ c.as_slice.result.now c.in_ok-outbox.outbox c.post.new.outbox c.post_asks.new.outbox
    c.in_ok-outbox.ensures.outbox c.post.ensures.outbox c.post.ensures.issued c.post.ensures.change c.post_asks.ensures.posts))

pub returns-clause-keeps : goal.returns-clause-keeps
returns-clause-keeps c = move_keeps c.args.self.now c.grant.new.self c.args.name c.serve.new.self c.clear_copy.new.self c.post_asks.new.mail c.in-Moves.to c.in-Moves.rest c.requires.keeps c.requires.there c.grant.ensures.rest
    c.in_ok-to.ensures.part (sym c.in-Moves.is ∙ c.in_ok-to.ensures.answer) c.clear_copy.ensures.shown

pub returns-clause-frame : goal.returns-clause-frame
returns-clause-frame c = move_frame c.args.self.now c.grant.new.self c.args.name c.serve.new.self c.clear_copy.new.self c.post_asks.new.mail c.grant.ensures.rest c.clear_copy.ensures.shown
