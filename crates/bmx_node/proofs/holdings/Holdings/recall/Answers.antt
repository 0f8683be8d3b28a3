use Rattle.std.proofs.Common.{[], sym, ◌∙◌}
use Rattle.bmx_node.proofs.Operating.{frame_tokens}
use Rattle.bmx_node.proofs.Queueing.{posts_none_in, recall_does, recall_keeps}
use Rattle.bmx_node.proofs.holdings.Holdings.recall.Goals as goal

pub returns-clause-does : goal.returns-clause-does
returns-clause-does c =
    let h = c.args.self.now in
    rw c.answer.ensures (recall_does c.args.stamp c.args.readers h c.args.name c.serve.new.self c.post_recalls.new.mail c.in-Revokes.nodes c.as_slice.result.now c.in_ok-outbox.outbox c.post_recalls.new.outbox
    c.requires.keeps c.requires.there c.in_ok-nodes.ensures.part (sym c.in-Revokes.is ∙ c.in_ok-nodes.ensures.answer) c.as_slice.ensures c.in_ok-outbox.ensures.outbox
    (c.post_recalls.ensures.posts h.mail [] (posts_none_in h.mail c.args.stamp c.args.readers c.in_ok-outbox.outbox c.in_ok-outbox.ensures.outbox)))

pub returns-clause-keeps : goal.returns-clause-keeps
returns-clause-keeps c = recall_keeps c.args.self.now c.args.name c.serve.new.self c.post_recalls.new.mail c.requires.keeps c.requires.there c.in_ok-nodes.ensures.part

pub returns-clause-frame : goal.returns-clause-frame
returns-clause-frame c = frame_tokens c.args.self.now c.serve.new.self c.post_recalls.new.mail
