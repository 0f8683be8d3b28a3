use Rattle.std.proofs.Common.{ℤ, to_z, of_z, w64, arith}
use Rattle.bmx_numerals.specs.Numerals.{signed_numeral}
use Rattle.bmx_script.proofs.Ascii.{signed_numeral_ascii, ascii_on}
use Rattle.bmx_script.proofs.printing.ShownLine.put_integer.Goals as goal

pub invariant_of-self : goal.invariant_of-self
invariant_of-self c =
    let z : ℤ = to_z w64 (of_z w64 c.args.integer) in
    (omega (arith, c.write_integer-self-inside.ensures.start), ascii_on _ (signed_numeral z) _ c.write_integer-self-inside.ensures.written (signed_numeral_ascii z) c.self.invariant.1)
