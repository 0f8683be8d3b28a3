use Rattle.std.proofs.Common.{◌≡◌, ℕ, ◌<◌, ◌∙◌, ap, arith, length}
use Rattle.bmx_run.specs.Inside.Running.{store_of}
use Rattle.bmx_run.specs.Inside.Picking.{actions_by}
use Rattle.bmx_run.proofs.Choosing.{a_node, all_nodes, actions_below, below_more, chooses_below}
use Rattle.bmx_run.proofs.Keeping.{may_at}
use Rattle.bmx_run.proofs.runner.Runner.pick.Goals as goal

pub returns-then-place-count : goal.returns-then-place-count
returns-then-place-count c =
    let r = c.args.self.now in
    let n = c.node_no-node.result in
    let e : n ≡ c.loop-number.number = omega (arith, c.node_no-node.ensures) in λ p at are.
    let below : c.loop-number.number < (store_of p).nodes = omega (arith, all_nodes p r at, c.loop-number-test.true, c.len-number-end.ensures) in
    let may = may_at p r c.args.tries.now c.loop-number.number n are below e in
    let before = c.loop-number.invariant p at are in
    let same : length (actions_below p r n) ≡ length (actions_below p r c.loop-number.number) = ap (λ (k : ℕ). length (actions_below p r k)) e in
    chooses_below p r n c.args.place c.loop-number.place c.action.result (a_node p r n at (omega (arith, e, c.loop-number-test.true, c.len-number-end.ensures)))
    (omega (arith, before, same)) (c.action.ensures p at may)

pub action-requires-clause-at : goal.action-requires-clause-at
action-requires-clause-at c =
    let r = c.args.self.now in
    let n = c.node_no-node.result in
    let e : n ≡ c.loop-number.number = omega (arith, c.node_no-node.ensures) in
    let p = c.requires.at.0 in
    let at = c.requires.at.1 in
    let are = c.requires.at.2 in
    let below : c.loop-number.number < (store_of p).nodes = omega (arith, all_nodes p r at, c.loop-number-test.true, c.len-number-end.ensures) in
    let may = may_at p r c.args.tries.now c.loop-number.number n are below e in
    let is : c.count-count.result ≡ length (actions_by p r n) = c.count-count.ensures.count p at may in
    (p, at, may, omega (arith, is, c.if-place-count.true))

pub loop-number-preserved : goal.loop-number-preserved
loop-number-preserved c =
    let r = c.args.self.now in
    let n = c.loop-number.number in
    let e : c.node_no-node.result ≡ n = omega (arith, c.node_no-node.ensures) in λ p at are.
    let below : n < (store_of p).nodes = omega (arith, all_nodes p r at, c.loop-number-test.true, c.len-number-end.ensures) in
    let is : c.count-count.result ≡ length (actions_by p r n) =
    c.count-count.ensures.count p at (may_at p r c.args.tries.now n c.node_no-node.result are below e) ∙ ap (λ (k : ℕ). length (actions_by p r k)) e in
    omega (arith, c.loop-number.invariant p at are, below_more p r n, is, c.if-place-count.false)
