use Rattle.std.proofs.Common.{◌^◌}
use Rattle.bmx_node.proofs.Stepping.{step_is, step_suits, still_keeps, some_setting}
use Rattle.bmx_node.proofs.FewMoves.{still_few, then_keeps}
use Rattle.bmx_node.proofs.node.Node.step.Goals as goal

pub invariant_of-self : goal.invariant_of-self
invariant_of-self c =
    let kept = still_keeps c.self.inside.holdings c.react.new.self c.self.inside.stamp (2 ^ 62) c.self.invariant.1 c.self.invariant.2
    c.in_err-done.ensures.err c.react.ensures.keeps c.react.ensures.frame in (
      kept.0,
      kept.1,
      kept.2,
      still_few c.self.inside.holdings c.react.new.self c.in_err-done.ensures.err c.react.ensures.frame.clock c.self.invariant.3,
    )

pub invariant_of-self-2 : goal.invariant_of-self-2
invariant_of-self-2 c =
    let some = some_setting c.self.inside.holdings in
    then_keeps some.0 c.self.inside.holdings c.react.new.self c.self.inside.stamp c.later-stamp.result c.args.input.now c.in_ok-done.done
    some.1 (λ suits. c.in_ok-done.ensures.reacts some.0 suits) c.later-stamp.ensures c.self.invariant.2 c.react.ensures.keeps c.react.ensures.frame c.self.invariant.3

pub returns-clause-step : goal.returns-clause-step
returns-clause-step c st =
    step_is st c.self.inside.holdings c.react.new.self c.args.self.now c.self.inside.stamp c.self.view_is c.args.input.now c.in_ok-done.done c.later-stamp.result
    c.later-stamp.ensures (λ suits. c.in_ok-done.ensures.reacts st suits)

pub returns-clause-suits : goal.returns-clause-suits
returns-clause-suits c st = step_suits st c.self.inside.holdings c.react.new.self c.args.self.now c.self.inside.stamp c.self.view_is c.react.ensures.frame
