-- What a line of a script comes to: it is skipped, good, or bad.
use Rattle.bmx_script.specs.declared.lines.LineKind.{LineKind}
use Rattle.bmx_script.specs.declared.lines.BadCause.{BadCause}

pub data Verdict : Type 0 where
  Skipped : Verdict
  Is : LineKind → Verdict
  Wrong : BadCause → Verdict
