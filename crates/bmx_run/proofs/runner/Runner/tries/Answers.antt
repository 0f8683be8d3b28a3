use Rattle.std.proofs.Common.{◌≡◌, ◌<◌, ◌∙◌, subst, arith, length}
use Rattle.bmx_run.specs.Inside.Picking.{MayTry}
use Rattle.bmx_run.proofs.Listing.{length_set}
use Rattle.bmx_run.proofs.Choosing.{all_nodes, few_nodes}
use Rattle.bmx_run.proofs.Keeping.{looked_more}
use Rattle.bmx_run.proofs.runner.Runner.tries.Goals as goal

pub loop-number-preserved : goal.loop-number-preserved
loop-number-preserved c =
    let r = c.args.self.now in
    let k = c.loop-number.number in
    let tries = c.loop-number.tries in
    let b = c.may_try.result in
    let long : length tries ≡ 8 = c.loop-number.invariant.0 in (
      length_set tries k b ∙ long,
      λ p at.
          let short : k < length tries = omega (arith, long, few_nodes p r at, c.loop-number-test.true, c.len-number-end.ensures) in
          let is : c.node_no.result ≡ k = omega (arith, c.node_no.ensures) in
          looked_more p r tries k b short (subst (λ n. MayTry p r n b) is (c.may_try.ensures p at)) (c.loop-number.invariant.1 p at),
    )

pub returns-clause-tries : goal.returns-clause-tries
returns-clause-tries c = λ p at n below.
    let r = c.args.self.now in
    c.loop-number.invariant.1 p at n (omega (arith, below, all_nodes p r at, c.len-number-end.ensures, c.loop-number-test.false, c.loop-number.auto.number-end))
