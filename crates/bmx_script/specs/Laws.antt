-- What is proved of reading itself.
use Rattle.std.specs.Prelude.{◌≡◌, ◌↔◌, ℕ, ◌+◌, ◌^◌, List, take, Result}
use Rattle.bmx_script.specs.declared.lines.Line.{Line}
use Rattle.bmx_script.specs.declared.lines.Bad.{Bad}
use Rattle.bmx_script.specs.Grammar.{IsReading}

-- bytes have one reading at most
abbrev pub ReadingIsDetermined : Type 0
ReadingIsDetermined = (bytes : List ℕ) (a b : Result (List Line) Bad) → IsReading bytes a → IsReading bytes b → a ≡ b

-- what the first 2 ^ 20 + 1 bytes of a text come to, the whole text comes to, and nothing else
abbrev pub PrefixIsEnough : Type 0
PrefixIsEnough = (bytes : List ℕ) (answer : Result (List Line) Bad) → IsReading (take (2 ^ 20 + 1) bytes) answer ↔ IsReading bytes answer
