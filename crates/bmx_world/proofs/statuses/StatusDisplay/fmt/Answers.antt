use Rattle.std.proofs.Common.{◌≡◌, ℕ, ◌<◌, ◌^◌, List, ◌∷◌, ◌++◌, append_assoc, decimal, subst, sym, ap, ◌∙◌, arith, rules}
use Rattle.std.specs.Prelude.{codes}
use Rattle.std.specs.Fmt.{HasWritten}
use Rattle.bmx_numerals.specs.Numerals.{numeral}
use Rattle.bmx_world.specs.declared.statuses.Status.{Status}
use Rattle.bmx_world.specs.Statuses.{line_of, cause_word}
use Rattle.bmx_world.proofs.Decimals.{numeral-decimal}
use Rattle.bmx_world.proofs.statuses.StatusDisplay.fmt.Goals as goal

pub returns-in-Usage-clause-writes : goal.returns-in-Usage-clause-writes
returns-in-Usage-clause-writes g c =
    let fits : c.in-Usage.word < 2 ^ 64 = omega arith in
    rw (c.in-Usage.is, numeral-decimal c.in-Usage.word fits) (search rules)

pub returns-in-BadScript-clause-writes : goal.returns-in-BadScript-clause-writes
returns-in-BadScript-clause-writes g c =
    let line : ℕ = c.from-line.result in
    let cause : List ℕ = cause_word c.in-BadScript.bad.cause in
    let fits : line < 2 ^ 64 = omega (arith, c.from-line.type_inv) in
    let same : decimal line ++ (58 ∷ (32 ∷ c.cause_word-cause.result.now)) ≡ numeral c.in-BadScript.bad.line ++ codes ": " ++ cause =
    ap (λ (t : List ℕ). decimal line ++ (58 ∷ (32 ∷ t))) c.cause_word-cause.ensures
    ∙ ap (λ (t : List ℕ). t ++ (58 ∷ (32 ∷ cause))) (sym (numeral-decimal line fits) ∙ ap numeral c.from-line.ensures)
    ∙ sym (append_assoc (numeral c.in-BadScript.bad.line) (codes ": ") cause) in
    λ plain ok.
    subst (λ (s : Status). HasWritten g.W.Write.write_str_gives c.args.f.now (line_of s) c.write-in-BadScript.new.self) (sym c.in-BadScript.is)
    (subst (λ (t : List ℕ). HasWritten g.W.Write.write_str_gives c.args.f.now (codes "bmx: line " ++ t) c.write-in-BadScript.new.self) same (c.write-in-BadScript.ensures.writes plain ok))
