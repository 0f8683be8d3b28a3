use Rattle.std.proofs.Common.{◌≡◌, ℕ, ◌+◌, ◌∙◌, sym, ap, arith, length}
use Rattle.std.specs.Prelude.{is_some}
use Rattle.bmx_protocol.specs.Runs.Turns.{letter_actions}
use Rattle.bmx_run.specs.Inside.Running.{history_of}
use Rattle.bmx_run.proofs.Choosing.{a_node, one_if, takes_some, letters_more}
use Rattle.bmx_run.proofs.runner.Runner.next_letter.Goals.{then-is_some+else-place-eq0, else-is_some}
use Rattle.bmx_run.proofs.runner.Runner.next_letter.Goals as goal

pub returns-then-place-eq0 : goal.returns-then-place-eq0
returns-then-place-eq0 c =
    let r = c.args.self.now in
    let n = c.args.node in
    let from = c.node_no-from.result in
    let e : from ≡ c.loop-number.number = omega (arith, c.node_no-from.ensures) in λ p at.
    let before = c.loop-number.invariant p at in
    let same : length (letter_actions (history_of p) n from) ≡ length (letter_actions (history_of p) n c.loop-number.number) =
    ap (λ (k : ℕ). length (letter_actions (history_of p) n k)) e in
    takes_some p r n from c.args.place c.first.result at (a_node p r from at (omega (arith, e, c.loop-number-test.true, c.len-number-end.ensures))) c.first.ensures
    (sym c.is_some.ensures ∙ c.if-is_some.true) (omega (arith, before, same, c.if-place-eq0.true))

pub loop-number-preserved : goal.loop-number-preserved
loop-number-preserved c =
    let r = c.args.self.now in
    let n = c.args.node in
    let from = c.node_no-from.result in
    let e : from ≡ c.loop-number.number = omega (arith, c.node_no-from.ensures) in λ p at.
    let before = c.loop-number.invariant p at in
    let same : length (letter_actions (history_of p) n from) ≡ length (letter_actions (history_of p) n c.loop-number.number) =
    ap (λ (k : ℕ). length (letter_actions (history_of p) n k)) e in
    let same_more : length (letter_actions (history_of p) n (from + 1)) ≡ length (letter_actions (history_of p) n (c.loop-number.number + 1)) =
    ap (λ (k : ℕ). length (letter_actions (history_of p) n (k + 1))) e in
    let more = letters_more p r n from c.first.result at c.first.ensures in
    elim c.if-is_some.branch [
      | then-is_some+else-place-eq0 w ↦
          let one : one_if (is_some c.first.result) ≡ 1 = ap one_if (sym c.is_some.ensures ∙ w.if-is_some.true) in
          omega (arith, before, same, same_more, more, one, w.place-is, w.if-place-eq0.false)
      | else-is_some w ↦
          let none : one_if (is_some c.first.result) ≡ 0 = ap one_if (sym c.is_some.ensures ∙ w.if-is_some.false) in
          omega (arith, before, same, same_more, more, none, w.place-is)
    ]
