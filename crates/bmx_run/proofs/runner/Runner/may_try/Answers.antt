use Rattle.std.proofs.Common.{◌∙◌, sym, ap, subst, refl, arith, Some, None}
use Rattle.std.specs.Prelude.{option_copied, not}
use Rattle.bmx_types.specs.Openings.{bunches_of}
use Rattle.bmx_protocol.specs.Runs.Programs.{Order}
use Rattle.bmx_protocol.specs.Runs.Turns.{is_ready}
use Rattle.bmx_node.specs.Seen.{FitsCommand}
use Rattle.bmx_run.specs.Inside.Running.{store_of}
use Rattle.bmx_run.proofs.Choosing.{read_at, a_seat, state_at, order_is, tries_none, may_waited, tries_unwaited}
use Rattle.bmx_run.proofs.runner.Runner.may_try.Goals as goal

pub returns-in-None : goal.returns-in-None
returns-in-None c =
    let r = c.args.self.now in
    let n = c.args.node in
    let s = c.index-seat.result.now in λ p at.
    let there = read_at r.seats.items c.from.result n s (omega (arith, c.from.ensures, c.get.ensures.value)) (a_seat p r n at c.requires.node) c.index-seat.ensures in
    (None, refl, tries_none p r n s at there (sym c.next.ensures ∙ ap option_copied c.in-None.is))

pub returns-then-not-seat : goal.returns-then-not-seat
returns-then-not-seat c =
    let r = c.args.self.now in
    let n = c.args.node in
    let s = c.index-seat.result.now in
    let g = c.in-Some.order.now in λ p at.
    let there = read_at r.seats.items c.from.result n s (omega (arith, c.from.ensures, c.get.ensures.value)) (a_seat p r n at c.requires.node) c.index-seat.ensures in
    (Some g, ap not c.if-not-seat.true, tries_unwaited p r n s g at there (sym (c.in-Some.ensures)) c.if-not-seat.true)

pub returns-else-not-seat : goal.returns-else-not-seat
returns-else-not-seat c =
    let r = c.args.self.now in
    let n = c.args.node in
    let s = c.index-seat.result.now in
    let g = c.in-Some.order.now in λ p at.
    let there = read_at r.seats.items c.from.result n s (omega (arith, c.from.ensures, c.get.ensures.value)) (a_seat p r n at c.requires.node) c.index-seat.ensures in
    may_waited p r n s g c.is_ready.result at there (sym (c.in-Some.ensures)) c.if-not-seat.false
    (c.is_ready.ensures p at ∙ ap (λ (x : Order). is_ready n (state_at p r n) x.command) c.order.view_is)

pub is_ready-requires-clause-at : goal.is_ready-requires-clause-at
is_ready-requires-clause-at c =
    let r = c.args.self.now in
    let n = c.args.node in
    let s = c.index-seat.result.now in
    let p = c.requires.at.0 in
    let at = c.requires.at.1 in
    let there = read_at r.seats.items c.from.result n s (omega (arith, c.from.ensures, c.get.ensures.value)) (a_seat p r n at c.requires.node) c.index-seat.ensures in
    let order = order_is p r n s c.in-Some.order.now at there (sym (c.in-Some.ensures)) in
    (p, at, subst (FitsCommand (bunches_of (store_of p).births)) (sym (ap (λ (g : Order). g.command) c.order.view_is)) order.fits)
