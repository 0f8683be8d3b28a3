use Rattle.std.proofs.Common.{◌<◌, ◌≤◌, None, sym, ◌∙◌, arith, ⊎_elim}
use Rattle.std.proofs.lemmas.Bool.{cases_lt}
use Rattle.std.proofs.lemmas.List.{get_or_past}
use Rattle.bmx_mark.proofs.fields.targets_of.Goals as goal

pub returns-clause-targets : goal.returns-clause-targets
returns-clause-targets g c = λ i. ⊎_elim
    (λ (h : i < 32). c.loop-i.invariant.known i (omega arith))
    (λ (h : 32 ≤ i).
    let some : 0 < c.loop-i.i = omega arith in
    get_or_past c.loop-i.targets i None (omega (arith, c.loop-i.invariant.long)) ∙ sym (c.loop-i.invariant.few some i h))
    (cases_lt i 32)

pub returns-clause-few : goal.returns-clause-few
returns-clause-few g c =
    let some : 0 < c.loop-i.i = omega arith in
    c.loop-i.invariant.few some
