-- That objects are an image is a fact: it holds in one way.
use Rattle.std.specs.Prelude.{ℕ, List, [], ◌∷◌, ◌++◌, length}
use Rattle.std.proofs.Props.{props}
use Rattle.std.specs.Coded.{×_prop, Unit-prop}
use Rattle.bmx_image.specs.declared.images.ImageField.{ImageField}
use Rattle.bmx_image.specs.declared.images.ImageField.TheVariants as field
use Rattle.bmx_image.specs.declared.images.ImageObject.{ImageObject}
use Rattle.bmx_image.specs.Images.{EachFits, FieldFits, FitsBehind, ObjectFits, StandsBehind, IsImage}

EachFits-prop : {A : Type 0} (Fits : List A → A → Type 0) → ((before : List A) (x : A) → IsProp (Fits before x)) → (before xs : List A) → IsProp (EachFits Fits before xs)
EachFits-prop Fits fact before [] = Unit-prop
EachFits-prop Fits fact before (x ∷ xs) = ×_prop (fact before x) (EachFits-prop Fits fact (before ++ x ∷ []) xs)

FieldFits-prop : (count top : ℕ) (f : ImageField) → IsProp (FieldFits count top f)
FieldFits-prop count top field.Null = hlevel props
FieldFits-prop count top (field.Int k) = hlevel props
FieldFits-prop count top (field.Ref index) = hlevel props

ObjectFits-prop : (count index top : ℕ) (o : ImageObject) → IsProp (ObjectFits count index top o)
ObjectFits-prop count index top o =
    let fields : IsProp (EachFits (FitsBehind count top) [] o.fields) = EachFits-prop (FitsBehind count top) (λ before f. FieldFits-prop count _ f) [] o.fields in
    hlevel (props, fields)

pub IsImage-prop : (objects : List ImageObject) → IsProp (IsImage objects)
IsImage-prop objects =
    let fit : IsProp (EachFits (StandsBehind (length objects)) [] objects) = EachFits-prop (StandsBehind (length objects)) (λ before o. ObjectFits-prop (length objects) _ _ o) [] objects in
    hlevel (props, fit)
