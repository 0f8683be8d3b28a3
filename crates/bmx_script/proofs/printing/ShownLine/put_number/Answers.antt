use Rattle.std.proofs.Common.{arith}
use Rattle.bmx_numerals.specs.Numerals.{numeral}
use Rattle.bmx_script.proofs.Ascii.{numeral_ascii, ascii_on}
use Rattle.bmx_script.proofs.printing.ShownLine.put_number.Goals as goal

pub invariant_of-self : goal.invariant_of-self
invariant_of-self c = (omega (arith, c.write_number-self-inside.ensures.start), ascii_on _ (numeral c.args.number) _ c.write_number-self-inside.ensures.written (numeral_ascii c.args.number) c.self.invariant.1)
