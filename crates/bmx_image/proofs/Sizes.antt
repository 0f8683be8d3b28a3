-- No object of an image has more than 32 fields, and an image has few objects.
use Rattle.std.proofs.Common.{◌≡◌, ℕ, ◌≤◌, Bool, true, false, cond, eqb, leb, List, [], ◌∷◌, ◌++◌, length, All, arith}
use Rattle.std.specs.List.{AllByRecursion}
use Rattle.std.proofs.lemmas.Bool.{eqb-true, leb-true}
use Rattle.std.proofs.lemmas.List.Elements.{All-from_recursion}
use Rattle.bmx_image.specs.declared.images.ImageObject.{ImageObject}
use Rattle.bmx_image.specs.Images.{EachFits, StandsBehind, IsImage}

abbrev IsSmall : ImageObject → Type 0
IsSmall o = length o.fields ≤ 32

either : (b : Bool) (size : ℕ) → cond b (eqb size 32) (leb size 32) ≡ true → size ≤ 32
either true size h = let e = eqb-true _ _ h in omega arith
either false size h = leb-true _ _ h

each_small : (count : ℕ) (before objects : List ImageObject) → EachFits (StandsBehind count) before objects → AllByRecursion IsSmall objects
each_small count before [] fit = tt
each_small count before (o ∷ os) fit = (either (eqb (length before) 0) (length o.fields) fit.0.sized, each_small count (before ++ o ∷ []) os fit.1)

pub sizes : (objects : List ImageObject) → IsImage objects → All (λ o. length o.fields ≤ 32) objects
sizes objects image = All-from_recursion IsSmall objects (each_small (length objects) [] objects image.fit)
