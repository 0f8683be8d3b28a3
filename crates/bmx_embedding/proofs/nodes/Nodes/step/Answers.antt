use Rattle.std.proofs.Common.{◌<◌, arith, length, List, refl, ap, subst, ◌∙◌, slice_set}
use Rattle.bmx_tokens.proofs.Map.{OnErr-from}
use Rattle.bmx_node.specs.Stamped.{Stamped}
use Rattle.bmx_embedding.specs.Settings.{the_setting}
use Rattle.bmx_embedding.specs.Steps.{Steps, seen}
use Rattle.bmx_embedding.proofs.Stepped.{suits_at, are_set, seen_set, steps_by}
use Rattle.bmx_embedding.proofs.nodes.Nodes.step.Goals as goal

pub invariant_of-self-in_err-done : goal.invariant_of-self-in_err-done
invariant_of-self-in_err-done c =
    let short : c.from-number.result < length c.self.inside.nodes.items = omega (arith, c.if-number-len.false, c.len.ensures) in
    are_set c.self.inside.nodes.items c.from-number.result c.index_mut-node.result.now c.step.new.self c.self.invariant c.index_mut-node.ensures.value c.step.ensures.me
    (c.step.ensures.suits the_setting (suits_at c.self.inside.nodes.items c.from-number.result c.index_mut-node.result.now c.self.invariant short c.index_mut-node.ensures.value))

pub returns-in_err-done-clause-err : goal.returns-in_err-done-clause-err
returns-in_err-done-clause-err c =
    OnErr-from c.from_residual.result
    (seen_set c.self.inside.nodes.items c.from-number.result c.index_mut-node.result.now c.step.new.self c.index_mut-node.ensures.value c.in_err-done.ensures.err c.in_err-done.ensures.err_stamp
    ∙ ap seen c.self.view_is)

pub invariant_of-self-2 : goal.invariant_of-self-2
invariant_of-self-2 c =
    let short : c.from-number.result < length c.self.inside.nodes.items = omega (arith, c.if-number-len.false, c.len.ensures) in
    are_set c.self.inside.nodes.items c.from-number.result c.index_mut-node.result.now c.step.new.self c.self.invariant c.index_mut-node.ensures.value c.step.ensures.me
    (c.step.ensures.suits the_setting (suits_at c.self.inside.nodes.items c.from-number.result c.index_mut-node.result.now c.self.invariant short c.index_mut-node.ensures.value))

pub returns-clause-ok : goal.returns-clause-ok
returns-clause-ok c =
    let short : c.from-number.result < length c.self.inside.nodes.items = omega (arith, c.if-number-len.false, c.len.ensures) in
    let new : List Stamped = slice_set c.self.inside.nodes.items c.from-number.result c.step.new.self in
    subst (λ (old : List Stamped). Steps old c.args.at c.args.input.now c.in_ok-done.done new) c.self.view_is
    (steps_by c.self.inside.nodes.items new c.args.at c.from-number.result c.args.input.now c.index_mut-node.result.now c.step.new.self c.in_ok-done.done c.self.invariant short
    (c.from-number.ensures ∙ c.get.ensures.value) c.index_mut-node.ensures.value (c.in_ok-done.ensures.step the_setting) c.in_ok-done.ensures.stamp refl)
