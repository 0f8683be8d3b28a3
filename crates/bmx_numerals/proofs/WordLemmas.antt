-- What was read, by a test that it passes or fails.
use Rattle.std.proofs.Common.{◌≡◌, Bool, true, false, Option, Some, Ok, Err, sym, ap, ◌∙◌}
use Rattle.std.proofs.lemmas.Bool.{cond-true, cond-false}
use Rattle.bmx_numerals.specs.Words.{tested}
use Rattle.bmx_numerals.specs.declared.words.Misfit.TheVariants.{Range}

-- a value that fails the test
pub range_from : {A : Type 0} (p : A → Bool) (o : Option A) (x : A) → o ≡ Some x → p x ≡ false → Err Range ≡ tested p o
range_from p o x is fails = sym (ap (tested p) is ∙ cond-false (p x) (Ok x) (Err Range) fails)

-- and one that passes it
pub ok_from : {A : Type 0} (p : A → Bool) (o : Option A) (x : A) → o ≡ Some x → p x ≡ true → Ok x ≡ tested p o
ok_from p o x is passes = sym (ap (tested p) is ∙ cond-true (p x) (Ok x) (Err Range) passes)
