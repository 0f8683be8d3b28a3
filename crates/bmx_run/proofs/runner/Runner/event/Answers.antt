use Rattle.std.proofs.Common.{ap, sym, ◌∙◌, cond, Bool, List, [], ◌∷◌, ◌++◌, refl}
use Rattle.bmx_protocol.specs.declared.events.Event.{Event}
use Rattle.bmx_tokens.proofs.Map.{OnErr-from}
use Rattle.bmx_run.proofs.Stepped.{steps_by, run_by, same_by}
use Rattle.bmx_run.proofs.runner.Runner.event.Goals as goal

pub returns-in_err-done-clause-err : goal.returns-in_err-done-clause-err
returns-in_err-done-clause-err c st are =
    let r = c.args.self.now in
    OnErr-from c.from_residual-in_err-done.result
    (run_by st r _ c.reserve.ensures.items
    (same_by st r.nodes.items _ c.args.node c.from.result c.requires.node c.index_mut-actor.result.now c.step.new.self are c.requires.there
    (c.from.ensures ∙ c.get.ensures.value) c.index_mut-actor.ensures.value (c.step.ensures.suits st) c.step.ensures.me
    c.in_err-done.ensures.err c.in_err-done.ensures.err_stamp refl))

pub returns-clause-ok : goal.returns-clause-ok
returns-clause-ok c st are =
    let r = c.args.self.now in
    let e : Event = record { node = c.args.node; stamp = c.stamp-stamp.result; input = c.args.input; done = c.in_ok-done.done } in
    steps_by st r _ c.args.node c.from.result c.args.input c.requires.node c.index_mut-actor.result.now c.step.new.self c.stamp-stamp.result c.in_ok-done.done are c.requires.there
    (c.from.ensures ∙ c.get.ensures.value) c.index_mut-actor.ensures.value (c.in_ok-done.ensures.step st) (c.step.ensures.suits st) c.step.ensures.me
    c.in_ok-done.ensures.stamp c.stamp-stamp.ensures
    (c.push-pushed.ensures.items ∙ ap (λ (b : Bool). cond b (c.reserve.new.self.items ++ e ∷ []) c.reserve.new.self.items) (sym c.if-prove.ensures.value)
    ∙ ap (λ (l : List Event). l ++ e ∷ []) c.reserve.ensures.items)
    refl
