-- The exit code and the line on standard error of each status.
use Rattle.std.specs.Prelude.{ℕ, List, [], ◌++◌, codes}
use Rattle.bmx_numerals.specs.Numerals.{numeral}
use Rattle.bmx_script.specs.declared.lines.BadCause.{BadCause}
use Rattle.bmx_script.specs.declared.lines.BadCause.TheVariants as cause
use Rattle.bmx_world.specs.declared.statuses.Status.{Status}
use Rattle.bmx_world.specs.declared.statuses.Status.TheVariants as status

-- the exit code
abbrev pub code_of : Status → ℕ
code_of status.Done = 0
code_of status.NoMemory = 1
code_of (status.Usage word) = 2
code_of (status.BadScript bad) = 3
code_of status.ReadFault = 4
code_of status.WriteFault = 5
code_of status.Stuck = 7
code_of status.SomeRefused = 8
code_of status.Spent = 9

abbrev pub cause_word : BadCause → List ℕ
cause_word cause.Form = codes "form"
cause_word cause.Range = codes "range"
cause_word cause.Long = codes "long"
cause_word cause.End = codes "end"

-- the line, without its line feed; nothing where all ran
abbrev pub line_of : Status → List ℕ
line_of status.Done = []
line_of status.SomeRefused = []
line_of status.NoMemory = codes "bmx: no memory"
line_of (status.Usage word) = codes "bmx: usage at word " ++ numeral word
line_of (status.BadScript bad) = codes "bmx: line " ++ numeral bad.line ++ codes ": " ++ cause_word bad.cause
line_of status.ReadFault = codes "bmx: read failed"
line_of status.WriteFault = codes "bmx: write failed"
line_of status.Stuck = codes "bmx: stuck"
line_of status.Spent = codes "bmx: budget spent"
