use Rattle.bmx_msg.specs.declared.letters.Msg.{Msg}
use Rattle.bmx_node.specs.Inside.Posting.{requests}
use Rattle.std.proofs.Common.{take, ◌++◌, ◌∷◌, [], ap, refl, sym, ◌∙◌, arith, ◌+◌, ◌≤◌, length}
use Rattle.bmx_protocol.specs.Rules.{Draft}
use Rattle.bmx_token.specs.declared.parts.Ask.{Ask}
use Rattle.bmx_node.specs.Inside.Reacting.{request_msg}
use Rattle.bmx_mail.specs.Mails.{OutboxState}
use Rattle.bmx_node.proofs.Posting.{drafts_more, posted_more}
use Rattle.bmx_node.proofs.serving.post_asks.Goals as goal

pub post-requires-clause-room : goal.post-requires-clause-room
post-requires-clause-room c = omega (arith, c.loop-ask.invariant.2, c.loop-ask-test.true)

pub post-requires-clause-counts : goal.post-requires-clause-counts
post-requires-clause-counts c = c.loop-ask.invariant.3

pub loop-ask-preserved : goal.loop-ask-preserved
loop-ask-preserved c =
    let name = c.args.name in
    let asks = c.args.asks.now in
    let i = c.loop-ask.ask-index in
    let n = c.ask-item.result in (
      λ first drafts before. posted_more first c.loop-ask.mail c.post.new.self c.loop-ask.outbox c.post.new.outbox c.args.outbox.now.stamp _ _ (record { to = c.args.to; msg = c.request.result })
          (c.loop-ask.invariant.0 first drafts before) c.loop-ask.invariant.1 (ap (λ (o : OutboxState). o.letters) c.post.ensures.outbox) c.post.ensures.issued c.post.ensures.change
          (ap (λ (m : Msg). (drafts ++ requests c.args.to name (take i asks)) ++ record { to = c.args.to; msg = m } ∷ []) c.request.ensures
          ∙ drafts_more (λ (a : Ask). record { to = c.args.to; msg = request_msg name a.asker a.mode }) asks i n drafts c.loop-ask-test.true c.ask-item.is),
      ap (λ (o : OutboxState). o.stamp) c.post.ensures.outbox ∙ c.loop-ask.invariant.1,
      omega (arith, ap (λ (o : OutboxState). o.room) c.post.ensures.outbox, c.loop-ask.invariant.2, c.loop-ask-test.true),
      c.post.ensures.counts,
    )
