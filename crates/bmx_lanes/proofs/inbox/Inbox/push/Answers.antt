use Rattle.std.proofs.Common.{◌∷◌, ◌++◌, [], ◌+◌, arith, refl}
use Rattle.bmx_lanes.proofs.Sending.{OnErr-from, recounted, becomes, lanes_kept, none_where_empty, one_where_any, one_after_push}
use Rattle.bmx_lanes.proofs.inbox.Inbox.push.Goals as goal

pub invariant_of-self : goal.invariant_of-self
invariant_of-self g c = recounted (λ q. q.items) c.self.inside.queues.items c.get.result c.index_mut-queue.result.now c.push_back.new.self c.self.inside.senders c.self.inside.senders
    c.self.invariant c.get.ensures.bound c.index_mut-queue.ensures.value (rw c.in_err-push_back.ensures.items refl)

pub returns-in_err-push_back-clause-err : goal.returns-in_err-push_back-clause-err
returns-in_err-push_back-clause-err g c = OnErr-from c.from_residual.result (rw (← c.self.view_is) (lanes_kept (λ q. q.items) c.self.inside.queues.items c.get.result c.index_mut-queue.result.now c.push_back.new.self
    (omega (arith, c.get.ensures.bound, c.self.invariant.0)) c.index_mut-queue.ensures.value c.in_err-push_back.ensures.items))

pub invariant_of-self-then-was_empty : goal.invariant_of-self-then-was_empty
invariant_of-self-then-was_empty g c = recounted (λ q. q.items) c.self.inside.queues.items c.get.result c.index_mut-queue.result.now c.push_back.new.self c.self.inside.senders (c.self.inside.senders + 1)
    c.self.invariant c.get.ensures.bound c.index_mut-queue.ensures.value
    (rw (c.in_ok-push_back.ensures.items, one_after_push c.index_mut-queue.result.now.items c.args.item, none_where_empty c.index_mut-queue.result.now.items _ c.index_mut-queue.result.now.ok.0 c.if-was_empty.ensures) (omega arith))

pub invariant_of-self-else-was_empty : goal.invariant_of-self-else-was_empty
invariant_of-self-else-was_empty g c = recounted (λ q. q.items) c.self.inside.queues.items c.get.result c.index_mut-queue.result.now c.push_back.new.self c.self.inside.senders c.self.inside.senders
    c.self.invariant c.get.ensures.bound c.index_mut-queue.ensures.value
    (rw (c.in_ok-push_back.ensures.items, one_after_push c.index_mut-queue.result.now.items c.args.item, one_where_any c.index_mut-queue.result.now.items _ c.index_mut-queue.result.now.ok.0 c.if-was_empty.ensures) refl)

pub returns-then-was_empty-clause-ok : goal.returns-then-was_empty-clause-ok
returns-then-was_empty-clause-ok g c = rw (← c.self.view_is) (becomes (λ q. q.items) c.self.inside.queues.items c.get.result c.args.from c.index_mut-queue.result.now c.push_back.new.self (λ l. l ++ c.args.item ∷ [])
    c.self.invariant.0 c.get.ensures.bound c.get.ensures.value c.index_mut-queue.ensures.value c.in_ok-push_back.ensures.items)

pub returns-else-was_empty-clause-ok : goal.returns-else-was_empty-clause-ok
returns-else-was_empty-clause-ok g c = rw (← c.self.view_is) (becomes (λ q. q.items) c.self.inside.queues.items c.get.result c.args.from c.index_mut-queue.result.now c.push_back.new.self (λ l. l ++ c.args.item ∷ [])
    c.self.invariant.0 c.get.ensures.bound c.get.ensures.value c.index_mut-queue.ensures.value c.in_ok-push_back.ensures.items)
