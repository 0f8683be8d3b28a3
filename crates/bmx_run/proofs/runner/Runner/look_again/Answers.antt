use Rattle.std.proofs.Common.{◌≡◌, ◌-◌, ◌<◌, ◌∙◌, sym, ap, subst, arith, length}
use Rattle.std.specs.Prelude.{ℕ, slice_set}
use Rattle.bmx_protocol.specs.declared.events.Event.{Event}
use Rattle.bmx_run.specs.Inside.Running.{with_event}
use Rattle.bmx_run.specs.Inside.Picking.{AreTries, MayTry}
use Rattle.bmx_run.proofs.Choosing.{read_at, few_nodes}
use Rattle.bmx_run.proofs.Keeping.{go_on, last_event, some_event, its_node}
use Rattle.bmx_run.proofs.runner.Runner.look_again.Goals as goal

pub may_try-requires-clause-node : goal.may_try-requires-clause-node
may_try-requires-clause-node c =
    let r = c.args.self.now in
    let p = c.requires.at.0 in
    let e = c.requires.at.1 in
    let at = c.requires.at.2 in
    let x = c.index.result.now in
    let some = some_event p e r at in
    let there = read_at r.history.items _ (length r.history.items - 1) x (omega (arith, c.len.ensures)) (omega (arith, some)) c.index.ensures in
    let same : x ≡ e = last_event p e r x at there in
    subst (λ (y : Event). y.node < length r.nodes.items) (sym same) (its_node p e r at)

pub returns-clause-tries : goal.returns-clause-tries
returns-clause-tries c = λ p e old was are is.
    let r = c.args.self.now in
    let x = c.index.result.now in
    let some = some_event p e r is in
    let there = read_at r.history.items _ (length r.history.items - 1) x (omega (arith, c.len.ensures)) (omega (arith, some)) c.index.ensures in
    let same : x ≡ e = last_event p e r x is there in
    let b = c.may_try.result in
    let told : MayTry (with_event p e) r e.node b = subst (λ (y : Event). MayTry (with_event p e) r y.node b) same (c.may_try.ensures (with_event p e) is) in
    let short : e.node < length c.args.tries.now = (let node = its_node p e r is in let few = few_nodes (with_event p e) r is in omega (arith, node, few, c.requires.long)) in
    let place : e.node ≡ c.from.result = sym (c.from.ensures ∙ c.get.ensures.value ∙ ap (λ (y : Event). y.node) same) in
    subst (λ (n : ℕ). AreTries (with_event p e) r (slice_set c.args.tries.now n b)) place (go_on p e old r c.args.tries.now b short was are is told)
