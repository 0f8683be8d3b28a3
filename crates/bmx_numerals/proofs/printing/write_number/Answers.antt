use Rattle.std.proofs.Common.{◌≡◌, ◌≤◌, ◌++◌, length, drop, sym, ap, ◌∙◌, decimal, arith}
use Rattle.std.proofs.lemmas.Fmt.{length-decimal-le}
use Rattle.bmx_numerals.specs.Numerals.{numeral}
use Rattle.bmx_numerals.proofs.NumeralLemmas.{numeral_decimal}
use Rattle.bmx_numerals.proofs.printing.write_number.Goals as goal

pub write_digits-requires : goal.write_digits-requires
write_digits-requires c =
    let short : length (decimal c.args.number) ≤ 20 = length-decimal-le 20 c.args.number (omega arith) (omega arith) (omega arith) in
    (omega arith, c.requires.1)

pub returns-clause-written : goal.returns-clause-written
returns-clause-written c =
    c.write_digits.ensures.written ∙ ap (λ t. t ++ drop c.args.end c.args.bytes.now) (sym (numeral_decimal c.args.number (omega arith)))

pub returns-clause-start : goal.returns-clause-start
returns-clause-start c =
    let same : length (numeral c.args.number) ≡ length (decimal c.args.number) = ap length (numeral_decimal c.args.number (omega arith)) in
    omega (arith, c.write_digits.ensures.start)

pub returns-clause-short : goal.returns-clause-short
returns-clause-short c =
    let short : length (decimal c.args.number) ≤ 20 = length-decimal-le 20 c.args.number (omega arith) (omega arith) (omega arith) in
    omega (arith, c.write_digits.ensures.start)
