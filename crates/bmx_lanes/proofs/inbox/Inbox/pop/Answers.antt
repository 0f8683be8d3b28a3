use Rattle.std.proofs.Common.{drop, ◌-◌, arith, ap, refl, ◌∙◌}
use Rattle.bmx_lanes.specs.Sending.{lane_from, one_if_any}
use Rattle.bmx_lanes.proofs.Sending.{recounted, becomes, one_sends, none_where_empty, one_where_any}
use Rattle.bmx_lanes.proofs.inbox.Inbox.pop.Goals as goal
use Rattle.bmx_lanes.proofs.inbox.Inbox.pop.Goals.{then-is_empty, else-is_empty}

pub invariant_of-self : goal.invariant_of-self
invariant_of-self g c = recounted (λ q. q.items) c.self.inside.queues.items c.get.result c.index_mut-queue.result.now c.pop_front.new.self c.self.inside.senders c.self.inside.senders
    c.self.invariant c.get.ensures.bound c.index_mut-queue.ensures.value (rw c.in_err-item.ensures.items refl)

pub returns-in_err-item-clause-rest : goal.returns-in_err-item-clause-rest
returns-in_err-item-clause-rest g c = rw (← c.self.view_is) (becomes (λ q. q.items) c.self.inside.queues.items c.get.result c.args.from c.index_mut-queue.result.now c.pop_front.new.self (drop 1)
    c.self.invariant.0 c.get.ensures.bound c.get.ensures.value c.index_mut-queue.ensures.value c.in_err-item.ensures.rest)

pub overflow_sub-self : goal.overflow_sub-self
overflow_sub-self g c = one_sends (λ q. q.items) c.self.inside.queues.items c.get.result c.index_mut-queue.result.now c.self.inside.senders c.self.invariant c.get.ensures.bound c.index_mut-queue.ensures.value
    (ap one_if_any c.in_ok-item.ensures.items)

pub invariant_of-self-then-is_empty : goal.invariant_of-self-then-is_empty
invariant_of-self-then-is_empty g c = recounted (λ q. q.items) c.self.inside.queues.items c.get.result c.index_mut-queue.result.now c.pop_front.new.self c.self.inside.senders (c.self.inside.senders - 1)
    c.self.invariant c.get.ensures.bound c.index_mut-queue.ensures.value
    (omega (
      arith,
      one_sends (λ q. q.items) c.self.inside.queues.items c.get.result c.index_mut-queue.result.now c.self.inside.senders c.self.invariant c.get.ensures.bound c.index_mut-queue.ensures.value (ap one_if_any c.in_ok-item.ensures.items),
      ap one_if_any c.in_ok-item.ensures.items,
      none_where_empty c.pop_front.new.self.items _ c.pop_front.new.self.ok.0 c.if-is_empty.ensures,
    ))

pub invariant_of-self-else-is_empty : goal.invariant_of-self-else-is_empty
invariant_of-self-else-is_empty g c = recounted (λ q. q.items) c.self.inside.queues.items c.get.result c.index_mut-queue.result.now c.pop_front.new.self c.self.inside.senders c.self.inside.senders
    c.self.invariant c.get.ensures.bound c.index_mut-queue.ensures.value
    (rw (ap one_if_any c.in_ok-item.ensures.items, one_where_any c.pop_front.new.self.items _ c.pop_front.new.self.ok.0 c.if-is_empty.ensures) refl)

pub returns-clause-rest : goal.returns-clause-rest
returns-clause-rest g c =
    let popped = becomes (λ q. q.items) c.self.inside.queues.items c.get.result c.args.from c.index_mut-queue.result.now c.pop_front.new.self (drop 1)
    c.self.invariant.0 c.get.ensures.bound c.get.ensures.value c.index_mut-queue.ensures.value c.in_ok-item.ensures.rest in
    rw (← c.self.view_is) (elim c.if-is_empty.branch [ then-is_empty w ↦ ap lane_from w.self-is ∙ popped | else-is_empty w ↦ ap lane_from w.self-is ∙ popped ])
