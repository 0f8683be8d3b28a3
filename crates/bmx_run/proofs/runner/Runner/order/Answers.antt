use Rattle.std.proofs.Common.{◌∙◌, sym, ap, arith, None}
use Rattle.std.specs.Prelude.{option_copied}
use Rattle.std.proofs.lemmas.Bool.{false≢true}
use Rattle.bmx_run.proofs.Choosing.{read_at, a_seat, order_is, may_next, may_order}
use Rattle.bmx_run.proofs.runner.Runner.order.Goals as goal

pub unreachable-requires : goal.unreachable-requires
unreachable-requires c =
    let r = c.args.self.now in
    let n = c.args.node in
    let s = c.index.result.now in
    let p = c.requires.at.0 in
    let at = c.requires.at.1 in
    let there = read_at r.seats.items c.from.result n s (omega (arith, c.from.ensures, c.get.ensures.value)) (a_seat p r n at c.requires.node) c.index.ensures in
    false≢true (may_next p r n s None at there (sym c.next.ensures ∙ ap option_copied c.in_default.is) c.requires.at.2)

pub returns-clause-tried : goal.returns-clause-tried
returns-clause-tried c =
    let r = c.args.self.now in
    let n = c.args.node in
    let s = c.index.result.now in λ p at may.
    let there = read_at r.seats.items c.from.result n s (omega (arith, c.from.ensures, c.get.ensures.value)) (a_seat p r n at c.requires.node) c.index.ensures in
    may_order p r n s c.in-Some.order.now at there (sym c.in-Some.ensures) may

pub returns-clause-next : goal.returns-clause-next
returns-clause-next c =
    let r = c.args.self.now in
    let n = c.args.node in
    let s = c.index.result.now in λ p at.
    let there = read_at r.seats.items c.from.result n s (omega (arith, c.from.ensures, c.get.ensures.value)) (a_seat p r n at c.requires.node) c.index.ensures in
    let order = order_is p r n s c.in-Some.order.now at there (sym c.in-Some.ensures) in
    (order.next, order.here)
