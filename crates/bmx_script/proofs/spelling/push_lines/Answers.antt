use Rattle.std.proofs.Common.{◌≡◌, ℕ, ◌+◌, ◌-◌, ◌<◌, ◌≤◌, List, ◌∷◌, suc, length, drop, get_or, ap, sym, ◌∙◌, subst, arith, add-one}
use Rattle.std.proofs.Math.Seq.{drop-cons}
use Rattle.bmx_script.specs.declared.lines.Line.{Line}
use Rattle.bmx_script.specs.Grammar.{AreNumbered}
use Rattle.bmx_script.proofs.RoundTrip.{numbered_below}
use Rattle.bmx_script.proofs.spelling.push_lines.Goals as goal

-- the next line and those behind it
next_line : (ls : List Line) (i : ℕ) (l : Line) → i < length ls → l ≡ get_or ls i l → drop i ls ≡ l ∷ drop (i + 1) ls
next_line ls i l h e = rw add-one (drop-cons ls i l h ∙ ap (λ (x : Line). x ∷ drop (suc i) ls) (sym e))

pub overflow_add-number : goal.overflow_add-number
overflow_add-number c =
    let next = next_line c.args.lines.now c.loop-line.line-index c.line-item.result c.loop-line-test.true c.line-item.is in
    let numbers : AreNumbered (c.loop-line.number - 1) 20001 (c.line-item.result ∷ drop (c.loop-line.line-index + 1) c.args.lines.now) =
    subst (λ (ls : List Line). AreNumbered (c.loop-line.number - 1) 20001 ls) next c.loop-line.invariant.numbers in
    let below : c.line-item.result.number ≤ 20000 = numbered_below c.line-item.result.number (drop (c.loop-line.line-index + 1) c.args.lines.now) numbers.1 in
    omega arith
