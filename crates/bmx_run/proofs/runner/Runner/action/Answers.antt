use Rattle.std.proofs.Common.{ℕ, Bool, sym, subst}
use Rattle.bmx_run.specs.declared.actions.Action.TheVariants as choice
use Rattle.bmx_run.specs.Inside.Picking.{ChoosesAt, MayTry, actions_by}
use Rattle.bmx_run.proofs.Choosing.{chooses_command}
use Rattle.bmx_run.proofs.runner.Runner.action.Goals as goal

pub returns-then-place-eq0 : goal.returns-then-place-eq0
returns-then-place-eq0 c =
    let r = c.args.self.now in
    let n = c.args.node in
    let g = c.order.result in λ p at may.
    let tries = subst (λ (b : Bool). MayTry p r n b) c.if-not-may_try.false may in
    let next = c.order.ensures.next p at in
    subst (λ (k : ℕ). ChoosesAt p (actions_by p r n) k (choice.Try g)) (sym c.if-place-eq0.true)
    (chooses_command p r n g (c.order.ensures.tried p at tries) next.1 next.0)
