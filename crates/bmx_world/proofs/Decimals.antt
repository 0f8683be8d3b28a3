-- How a number prints.
use Rattle.std.proofs.Common.{◌≡◌, ℕ, zero, suc, ◌<◌, ◌^◌, eqb, decimal, sym, ◌∙◌, arith}
use Rattle.std.proofs.lemmas.Fmt.{decimal_digit, decimal-digits_of}
use Rattle.std.proofs.lemmas.Bool.{cond-false, ne_eqb}
use Rattle.bmx_numerals.specs.Numerals.{numeral}

-- a number's one spelling is what `{}` prints
pub numeral-decimal : (n : ℕ) → n < 2 ^ 64 → numeral n ≡ decimal n
numeral-decimal zero fits = sym (decimal_digit 0 (omega arith))
numeral-decimal (suc m) fits =
    cond-false (eqb (suc m) 0) _ _ (ne_eqb (suc m) 0 (λ e. omega (arith, e))) ∙ sym (decimal-digits_of (suc m) (omega arith) fits)
