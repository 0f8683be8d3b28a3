-- Lists of words of which no two are the same.
use Rattle.std.specs.Prelude.{◌≡◌, ℕ, ◌<◌, false, List, length}
use Rattle.bmx_script.specs.Spelling.{word_of}
use Rattle.bmx_script.specs.Grammar.{same_word}

-- no two words of the list are the same
abbrev pub AreDistinct : List (List ℕ) → Type 0
AreDistinct words = (q b : ℕ) → q < b → b < length words → same_word (word_of words b) (word_of words q) ≡ false
