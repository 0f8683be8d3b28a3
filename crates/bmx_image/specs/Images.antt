-- Which objects make an image.
use Rattle.std.specs.Prelude.{ℕ, ◌+◌, ◌<◌, ◌≤◌, ◌==◌, Bool, if◌then◌else◌, nat_lt, nat_le, ◌&&◌, IsTrue, List, [], ◌∷◌, ◌++◌, length, max, FitsSigned}
use Rattle.std.specs.Int.{w64}
use Rattle.bmx_image.specs.declared.images.ImageField.{ImageField}
use Rattle.bmx_image.specs.declared.images.ImageField.TheVariants as field
use Rattle.bmx_image.specs.declared.images.ImageObject.{ImageObject}

-- each thing of a list may stand behind those before it, `before` being further ones in front
abbrev pub EachFits : {A : Type 0} → (List A → A → Type 0) → List A → List A → Type 0
EachFits Fits before [] = Unit {0}
EachFits Fits before (x ∷ xs) = Fits before x × EachFits Fits (before ++ x ∷ []) xs

-- the index that a field refers to, 0 where it refers to none
abbrev pub target : ImageField → ℕ
target field.Null = 0
target (field.Int k) = 0
target (field.Ref index) = index

-- the greatest index that fields refer to, 0 where they refer to none
abbrev pub top_of_fields : List ImageField → ℕ
top_of_fields [] = 0
top_of_fields (f ∷ fs) = max (target f) (top_of_fields fs)

-- the greatest index that objects refer to
abbrev pub top_of : List ImageObject → ℕ
top_of [] = 0
top_of (o ∷ os) = max (top_of_fields o.fields) (top_of os)

-- a field of an image of count objects, where the greatest index before it is top: it refers at most
-- one further, so that objects stand in the order in which they are first mentioned
abbrev pub FieldFits : ℕ → ℕ → ImageField → Type 0
FieldFits count top field.Null = Unit {0}
FieldFits count top (field.Int k) = FitsSigned w64 k
FieldFits count top (field.Ref index) = (index < count) × (index ≤ top + 1)

-- the same behind fields of its own object, where the greatest index before the object is top
abbrev pub FitsBehind : ℕ → ℕ → List ImageField → ImageField → Type 0
FitsBehind count top before f = FieldFits count (max top (top_of_fields before)) f

-- object 0 is the anchor, with 32 fields; no object has more
abbrev pub is_size : ℕ → ℕ → Bool
is_size index size = if index == 0 then size == 32 else nat_le size 32

-- an object of an image of count objects, at this index, where the greatest index before it is top:
-- it was mentioned before, but for the anchor
pub record ObjectFits (count index top : ℕ) (o : ImageObject) : Type 0 where
  pub mentioned : index ≤ top
  pub sized : IsTrue (is_size index (length o.fields))
  pub fields : EachFits (FitsBehind count top) [] o.fields

-- the same behind objects
abbrev pub StandsBehind : ℕ → List ImageObject → ImageObject → Type 0
StandsBehind count before o = ObjectFits count (length before) (top_of before) o

-- an image has 1 to 20,000 objects
abbrev pub is_count : ℕ → Bool
is_count count = nat_lt 0 count && nat_le count 20000

-- the objects of an image
pub record IsImage (objects : List ImageObject) : Type 0 where
  pub counted : IsTrue (is_count (length objects))
  pub fit : EachFits (StandsBehind (length objects)) [] objects
