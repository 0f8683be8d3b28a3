use Rattle.std.proofs.Common.{◌≡◌, ◌+◌, arith, ap, sym, ◌∙◌, subst, List, [], ◌∷◌, ◌++◌}
use Rattle.bmx_protocol.specs.Steps.{first_node}
use Rattle.bmx_node.specs.Stamped.{Stamped}
use Rattle.bmx_node.specs.Openings.{setting_of}
use Rattle.bmx_run.specs.declared.seats.Seat.{Seat}
use Rattle.bmx_run.proofs.Opening.{IsFresh, IsBare, AreFresh, fresh_more, begins}
use Rattle.bmx_run.proofs.runner.Runner.open.Goals as goal

pub loop-number-preserved : goal.loop-number-preserved
loop-number-preserved c =
    let st = setting_of c.in_ok-opening.opening in
    let n = c.loop-number.number in
    let nodes = c.loop-number.nodes.items in
    let seats = c.loop-number.seats.items in
    let fresh : IsFresh st n c.in_ok-open.field-0 = record {
      node = c.in_ok-open.ensures.node ∙ ap (first_node st) c.node_no.ensures;
      me = c.in_ok-open.ensures.me ∙ c.node_no.ensures;
      suits = c.in_ok-open.ensures.suits;
      stamp = c.in_ok-open.ensures.stamp;
    } in
    let bare : IsBare c.new.result = record { orders = c.new.ensures.orders; completed = c.new.ensures.completed; waits = c.new.ensures.waits } in
    subst (λ (l : List Stamped). AreFresh st (n + 1) l c.push-in-loop-number.new.self.items) (sym c.in_ok-push.ensures.items)
    (subst (λ (l : List Seat). AreFresh st (n + 1) (nodes ++ c.in_ok-open.field-0 ∷ []) l) (sym c.in_ok-push-2.ensures.items)
    (fresh_more st n nodes seats c.in_ok-open.field-0 c.new.result c.loop-number.invariant fresh bare))

pub returns-clause-opens : goal.returns-clause-opens
returns-clause-opens c =
    let st = setting_of c.in_ok-opening.opening in
    let all : c.loop-number.number ≡ c.in_ok-opening.opening.nodes = omega (arith, c.loop-number.auto.number-end, c.loop-number-test.false) in
    begins c.args.script.now c.args.seed st _ c.in_ok-opening.ensures c.in_ok-opening.opening.opened
    (subst (λ k. AreFresh st k c.loop-number.nodes.items c.loop-number.seats.items) all c.loop-number.invariant)
    c.in_ok-new.ensures c.seed_from_u64.ensures c.no_events.ensures c.new-3.ensures.bytes c.requires
