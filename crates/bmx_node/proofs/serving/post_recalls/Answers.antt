use Rattle.std.proofs.Common.{ap, refl, sym, ◌∙◌, arith, ◌+◌, ◌≤◌, length}
use Rattle.bmx_protocol.specs.Rules.{Draft}
use Rattle.bmx_msg.specs.declared.letters.Msg.TheVariants.{Inval}
use Rattle.bmx_mail.specs.Mails.{OutboxState}
use Rattle.bmx_node.proofs.Posting.{drafts_more, posted_more}
use Rattle.bmx_node.proofs.serving.post_recalls.Goals as goal

pub post-requires-clause-room : goal.post-requires-clause-room
post-requires-clause-room c = omega (arith, c.loop-node.invariant.2, c.loop-node-test.true)

pub post-requires-clause-counts : goal.post-requires-clause-counts
post-requires-clause-counts c = c.loop-node.invariant.3

pub loop-node-preserved : goal.loop-node-preserved
loop-node-preserved c =
    let name = c.args.name in
    let nodes = c.args.nodes.now in
    let i = c.loop-node.node-index in
    let n = c.node-item.result in (
      λ first drafts before. posted_more first c.loop-node.mail c.post.new.self c.loop-node.outbox c.post.new.outbox c.args.outbox.now.stamp _ _ (record { to = n; msg = Inval name })
          (c.loop-node.invariant.0 first drafts before) c.loop-node.invariant.1 (ap (λ (o : OutboxState). o.letters) c.post.ensures.outbox) c.post.ensures.issued c.post.ensures.change
          (drafts_more (λ m. record { to = m; msg = Inval name }) nodes i n drafts c.loop-node-test.true c.node-item.is),
      ap (λ (o : OutboxState). o.stamp) c.post.ensures.outbox ∙ c.loop-node.invariant.1,
      omega (arith, ap (λ (o : OutboxState). o.room) c.post.ensures.outbox, c.loop-node.invariant.2, c.loop-node-test.true),
      c.post.ensures.counts,
    )
