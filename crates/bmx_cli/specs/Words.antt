-- The words of the command line.
use Rattle.std.specs.Prelude.{◌≡◌, ℕ, if◌then◌else◌, List, [], ◌∷◌, Option, Some, None, codes, refl}
use Rattle.bmx_script.specs.Grammar.{same_word}

-- the place, from 0, of the first word that doesn't fit the one word `run`, or where it is missing
abbrev pub misfit_in : List (List ℕ) → Option ℕ
misfit_in [] = Some 0
misfit_in (word ∷ []) = if same_word word (codes "run") then None else Some 0
misfit_in (word ∷ next ∷ words) = if same_word word (codes "run") then Some 1 else Some 0

no_word : misfit_in [] ≡ Some 0
no_word = refl

the_word : misfit_in (codes "run" ∷ []) ≡ None
the_word = refl

a_word_more : misfit_in (codes "run" ∷ codes "--seed" ∷ []) ≡ Some 1
a_word_more = refl
