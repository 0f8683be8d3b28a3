use Rattle.std.proofs.Common.{◌++◌, is_ok, if◌then◌else◌, string_bytes, sym, ap, ◌∙◌, to_z-of_z}
use Rattle.std.specs.Fmt.{signed_decimal}
use Rattle.bmx_numerals.proofs.NumeralLemmas.{signed_numeral_decimal}
use Rattle.bmx_numerals.proofs.printing.push_integer.Goals as goal

pub returns : goal.returns
returns c =
    c.push_str.ensures.bytes
    ∙ ap (λ t. if is_ok c.push_str.result then string_bytes c.args.text.now ++ t else string_bytes c.args.text.now)
    (c.format.ensures.text ∙ ap signed_decimal (to_z-of_z c.ranges.integer) ∙ sym (signed_numeral_decimal c.args.integer c.ranges.integer.sfits))
