-- What reading a script answers.
use Rattle.std.specs.Prelude.{ℕ, List, Result, Ok, Err}
use Rattle.bmx_script.specs.declared.lines.Bad.{Bad}
use Rattle.bmx_script.specs.declared.scripts.Script.{Script}
use Rattle.bmx_script.specs.declared.scripts.ScriptError.{ScriptError}
use Rattle.bmx_script.specs.declared.scripts.ScriptError.TheVariants as errors
use Rattle.bmx_script.specs.Grammar.{IsReading}

-- a fact for a bad line; want of memory says nothing
abbrev pub ForBad : (Bad → Type 0) → ScriptError → Type 0
ForBad P errors.NoMemory = Unit {0}
ForBad P (errors.Bad why) = P why

-- what reading the bytes answers: the lines, or the first bad line; want of memory says nothing
abbrev pub IsAnswer : List ℕ → Result Script ScriptError → Type 0
IsAnswer bytes (Ok script) = IsReading bytes (Ok script)
IsAnswer bytes (Err e) = ForBad (λ why. IsReading bytes (Err why)) e
