use Rattle.bmx_script.proofs.Ascii.{ascii_rest}
use Rattle.bmx_script.proofs.printing.ShownLine.as_str.Goals as goal

pub unreachable-requires : goal.unreachable-requires
unreachable-requires c = c.in-Err.ensures.cases.0 (ascii_rest c.self.inside.bytes c.self.inside.start 96 c.self.told c.self.invariant.1)
