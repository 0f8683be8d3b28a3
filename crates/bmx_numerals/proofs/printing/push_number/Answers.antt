use Rattle.std.proofs.Common.{◌++◌, is_ok, if◌then◌else◌, string_bytes, sym, ap, ◌∙◌, arith}
use Rattle.bmx_numerals.proofs.NumeralLemmas.{numeral_decimal}
use Rattle.bmx_numerals.proofs.printing.push_number.Goals as goal

pub returns : goal.returns
returns c =
    c.push_str.ensures.bytes
    ∙ ap (λ t. if is_ok c.push_str.result then string_bytes c.args.text.now ++ t else string_bytes c.args.text.now)
    (c.format.ensures.text ∙ sym (numeral_decimal c.args.number (omega arith)))
