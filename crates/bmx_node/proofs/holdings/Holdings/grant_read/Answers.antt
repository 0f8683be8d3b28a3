use Rattle.std.proofs.Common.{sym, ◌∙◌}
use Rattle.bmx_tokens.proofs.Map.{OnErr-from}
use Rattle.bmx_node.proofs.Granting.{read_does, grant_keeps, grant_frame, roomy_frame, roomy_node, roomy_tokens}
use Rattle.bmx_node.proofs.holdings.Holdings.grant_read.Goals as goal

pub returns-in_err-info-clause-err : goal.returns-in_err-info-clause-err
returns-in_err-info-clause-err c = OnErr-from c.from_residual-in_err-info.result (roomy_node c.args.self.now c.grant.new.self c.grant.ensures.rest)

pub returns-in_err-info-clause-frame : goal.returns-in_err-info-clause-frame
returns-in_err-info-clause-frame c = roomy_frame c.args.self.now c.grant.new.self c.grant.ensures.rest

pub returns-in_err-to-clause-err : goal.returns-in_err-to-clause-err
returns-in_err-to-clause-err c = OnErr-from c.from_residual-in_err-to.result (roomy_tokens c.args.self.now c.grant.new.self c.serve.new.self c.grant.ensures.rest c.in_err-to.ensures.err)

pub returns-in_err-to-clause-frame : goal.returns-in_err-to-clause-frame
returns-in_err-to-clause-frame c = grant_frame c.args.self.now c.grant.new.self c.serve.new.self c.grant.new.self.mail c.grant.ensures.rest

pub returns-clause-does : goal.returns-clause-does
returns-clause-does c =
    rw c.answer.ensures (read_does c.args.stamp 1 c.args.self.now c.grant.new.self c.args.name c.serve.new.self c.post.new.self c.in-Read.to _ _ c.in_ok-outbox.outbox c.post.new.outbox
    c.requires.keeps c.requires.there c.grant.ensures.rest c.in_ok-to.ensures.part (sym c.in-Read.is ∙ c.in_ok-to.ensures.answer)
    c.in_ok-info.ensures.info c.in_ok-info.ensures.fields c.in_ok-outbox.ensures.outbox c.post.ensures.outbox c.post.ensures.change)

pub returns-clause-keeps : goal.returns-clause-keeps
returns-clause-keeps c = grant_keeps c.args.self.now c.grant.new.self c.args.name c.serve.new.self c.post.new.self c.requires.keeps c.requires.there c.grant.ensures.rest c.in_ok-to.ensures.part

pub returns-clause-frame : goal.returns-clause-frame
returns-clause-frame c = grant_frame c.args.self.now c.grant.new.self c.serve.new.self c.post.new.self c.grant.ensures.rest
