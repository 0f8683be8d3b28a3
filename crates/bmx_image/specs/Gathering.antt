-- The image of an anchor in a graph. A graph is seen as the bunch of each name that has an object, and
-- the fields of each such object.
use Rattle.std.specs.Prelude.{◌≡◌, ◌≢◌, ◌↔◌, ℕ, ◌<◌, ◌≤◌, nat_eq, List, [], ◌∷◌, length, Contains, slice_get, Option, Some, Result, Ok, Err, IsSome}
use Rattle.std.specs.List.{IsDistinct}
use Rattle.bmx_types.specs.declared.values.Val.{Val}
use Rattle.bmx_types.specs.declared.values.Val.TheVariants as val
use Rattle.bmx_image.specs.declared.gathering.GatherError.{GatherError}
use Rattle.bmx_image.specs.declared.gathering.GatherError.TheVariants as error
use Rattle.bmx_image.specs.declared.images.Image.{Image}
use Rattle.bmx_image.specs.declared.images.ImageField.{ImageField}
use Rattle.bmx_image.specs.declared.images.ImageField.TheVariants as field
use Rattle.bmx_image.specs.declared.images.ImageObject.{ImageObject}

-- x is reached from the anchor within its bunch: it is the anchor, or stands in a field of an object
-- that is reached, and is of the anchor's bunch
pub data IsReached (bunch : ℕ → Option ℕ) (fields : ℕ → List Val) (anchor : ℕ) : ℕ → Type 0 where
  Anchor : IsReached bunch fields anchor anchor
  InField : {y : ℕ} (x : ℕ) → IsReached bunch fields anchor x → Contains (fields x) (val.Ref y) → bunch y ≡ bunch anchor → IsReached bunch fields anchor y

-- an object reached within the bunch refers into another one
pub record DoesCross (bunch : ℕ → Option ℕ) (fields : ℕ → List Val) (anchor : ℕ) : Type 0 where
  pub source : ℕ
  pub target : ℕ
  pub reached : IsReached bunch fields anchor source
  pub refers : Contains (fields source) (val.Ref target)
  pub apart : bunch target ≢ bunch anchor

-- more than 20,000 objects are reached within the bunch
pub record IsLarge (bunch : ℕ → Option ℕ) (fields : ℕ → List Val) (anchor : ℕ) : Type 0 where
  pub names : List ℕ
  pub distinct : IsDistinct nat_eq names
  pub reached : (x : ℕ) → Contains names x → IsReached bunch fields anchor x
  pub many : 20000 < length names

-- a field tells a value: a reference by the place of its name
abbrev pub Tells : List ℕ → Val → ImageField → Type 0
Tells names val.Null f = f ≡ field.Null
Tells names (val.Int k) f = f ≡ field.Int k
Tells names (val.Ref y) f = (i : ℕ) × (f ≡ field.Ref i) × (slice_get names i ≡ Some y)

-- fields tell values, one for one
abbrev pub TellsAll : List ℕ → List Val → List ImageField → Type 0
TellsAll names [] [] = Unit {0}
TellsAll names [] (f ∷ fs) = ⊥
TellsAll names (v ∷ vs) [] = ⊥
TellsAll names (v ∷ vs) (f ∷ fs) = Tells names v f × TellsAll names vs fs

-- objects tell those of the first names, one for one
abbrev pub TellObjects : (ℕ → List Val) → List ℕ → List ImageObject → Type 0
TellObjects fields names objects = (i : ℕ) (o : ImageObject) → slice_get objects i ≡ Some o → (x : ℕ) × (slice_get names i ≡ Some x) × TellsAll names (fields x) o.fields

-- the objects of an image tell exactly what is reached from the anchor within its bunch, the anchor
-- first. That they stand in the order of first mention is so in every image.
pub record IsImageFrom (bunch : ℕ → Option ℕ) (fields : ℕ → List Val) (anchor : ℕ) (objects : List ImageObject) : Type 0 where
  pub names : List ℕ
  pub distinct : IsDistinct nat_eq names
  pub first : slice_get names 0 ≡ Some anchor
  pub reached : (x : ℕ) → Contains names x ↔ IsReached bunch fields anchor x
  pub all : length objects ≡ length names
  pub told : TellObjects fields names objects

-- what may be gathered: the anchor has 32 fields and no other object more, and each name in a field
-- has an object
pub record CanGather (bunch : ℕ → Option ℕ) (fields : ℕ → List Val) (anchor : ℕ) : Type 0 where
  pub there : IsSome (bunch anchor)
  pub wide : length (fields anchor) ≡ 32
  pub sizes : (x : ℕ) → IsReached bunch fields anchor x → length (fields x) ≤ 32
  pub closed : (x y : ℕ) → IsReached bunch fields anchor x → Contains (fields x) (val.Ref y) → IsSome (bunch y)

-- what gathering answers: the image, unless a reference leaves the bunch, which is told first, or there
-- are too many objects, or memory runs out
abbrev pub IsGathered : (ℕ → Option ℕ) → (ℕ → List Val) → ℕ → Result Image GatherError → Type 0
IsGathered bunch fields anchor (Ok image) =
    IsImageFrom bunch fields anchor image.objects × (DoesCross bunch fields anchor → ⊥) × (IsLarge bunch fields anchor → ⊥)
IsGathered bunch fields anchor (Err error.NoMemory) = Unit {0}
IsGathered bunch fields anchor (Err error.Crosses) = DoesCross bunch fields anchor
IsGathered bunch fields anchor (Err error.Large) = IsLarge bunch fields anchor × (DoesCross bunch fields anchor → ⊥)
