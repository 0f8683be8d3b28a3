use Rattle.std.proofs.Common.{◌≡◌, ℕ, ◌<◌, ◌∙◌, ap, subst, arith, length}
use Rattle.bmx_run.specs.Inside.Running.{store_of}
use Rattle.bmx_run.specs.Inside.Picking.{actions_by, ServesAll}
use Rattle.bmx_run.proofs.Choosing.{all_nodes, actions_below, below_more, serves_more}
use Rattle.bmx_run.proofs.Keeping.{may_at}
use Rattle.bmx_run.proofs.runner.Runner.enabled.Goals as goal

pub loop-number-preserved : goal.loop-number-preserved
loop-number-preserved c =
    let r = c.args.self.now in
    let n = c.loop-number.number in
    let e : c.node_no.result ≡ n = omega (arith, c.node_no.ensures) in (
      omega (arith, c.loop-number.invariant.0, c.count-total.ensures.few),
      λ p at are.
          let below : n < (store_of p).nodes = omega (arith, all_nodes p r at, c.loop-number-test.true, c.len-number-end.ensures) in
          let is : c.count-total.result ≡ length (actions_by p r n) = c.count-total.ensures.count p at (may_at p r c.args.tries.now n c.node_no.result are below e) ∙ ap (λ (k : ℕ). length (actions_by p r k)) e in
          omega (arith, c.loop-number.invariant.1 p at are, is, below_more p r n),
      λ p at. serves_more p r n (subst (ServesAll p r) e (c.count-total.ensures.served p at)) (c.loop-number.invariant.2 p at),
    )

pub returns : goal.returns
returns c =
    let r = c.args.self.now in
    let n = c.loop-number.number in λ p at are.
    let last : n ≡ (store_of p).nodes = omega (arith, all_nodes p r at, c.len-number-end.ensures, c.loop-number-test.false, c.loop-number.auto.number-end) in
    record {
      all = c.loop-number.invariant.1 p at are ∙ ap (λ (k : ℕ). length (actions_below p r k)) last;
      served = λ m below. c.loop-number.invariant.2 p at m (omega (arith, below, last));
    }
