-- What the private functions that gather an image keep.
use Rattle.std.specs.Prelude.{◌≡◌, ◌≢◌, ◌⊎◌, ℕ, ◌-◌, ◌≤◌, List, [], ◌∷◌, ◌++◌, length, max, Contains, slice_get, Option, Some, Result, Ok, Err}
use Rattle.std.specs.Global.{Vec}
use Rattle.std.specs.Ordering.{nat_cmp}
use Rattle.std.specs.BTreeMap.{get}
use Rattle.bmx_types.specs.declared.values.Val.{Val}
use Rattle.bmx_types.specs.declared.values.Val.TheVariants as val
use Rattle.bmx_image.specs.declared.gathering.GatherError.{GatherError}
use Rattle.bmx_image.specs.declared.gathering.GatherError.TheVariants as error
use Rattle.bmx_image.specs.declared.gathering.Mentions.{Mentions}
use Rattle.bmx_image.specs.declared.images.ImageField.{ImageField}
use Rattle.bmx_image.specs.declared.images.ImageObject.{ImageObject}
use Rattle.bmx_image.specs.Images.{EachFits, FitsBehind, StandsBehind, top_of, top_of_fields}
use Rattle.bmx_image.specs.Gathering.{IsReached, TellObjects, TellsAll}

-- the map has the place of each name in the list, and no others
pub record IsPlaced (m : Mentions) : Type 0 where
  pub place : (x i : ℕ) → get nat_cmp m.places x ≡ Some i → slice_get m.names.items i ≡ Some x
  pub found : (x i : ℕ) → slice_get m.names.items i ≡ Some x → get nat_cmp m.places x ≡ Some i

-- a name is mentioned at that place: it was before, or is now as the last
pub record IsMention (old new : Mentions) (name i : ℕ) : Type 0 where
  pub placed : IsPlaced new
  pub home : new.home ≡ old.home
  pub there : slice_get new.names.items i ≡ Some name
  pub names : (new.names.items ≡ old.names.items) ⊎ ((new.names.items ≡ old.names.items ++ name ∷ []) × (i ≡ length old.names.items))

-- values were told by fields: the names in them are mentioned, those mentioned before in their places;
-- each is of the bunch; and each field refers at most one further than what stands before it
pub record Goes (bunch : ℕ → Option ℕ) (values : List Val) (fields : List ImageField) (old new : Mentions) : Type 0 where
  pub placed : IsPlaced new
  pub home : new.home ≡ old.home
  pub kept : (i x : ℕ) → slice_get old.names.items i ≡ Some x → slice_get new.names.items i ≡ Some x
  pub longer : length old.names.items ≤ length new.names.items
  pub only : (x : ℕ) → Contains new.names.items x → Contains old.names.items x ⊎ Contains values (val.Ref x)
  pub tells : TellsAll new.names.items values fields
  pub within : (x : ℕ) → Contains values (val.Ref x) → bunch x ≡ old.home
  pub fits : (count : ℕ) → length new.names.items ≤ count → EachFits (FitsBehind count (length old.names.items - 1)) [] fields
  pub top : max (length old.names.items - 1) (top_of_fields fields) ≡ length new.names.items - 1

-- some value refers to another bunch
pub record DoesLeave (bunch : ℕ → Option ℕ) (values : List Val) (m : Mentions) : Type 0 where
  pub target : ℕ
  pub refers : Contains values (val.Ref target)
  pub apart : bunch target ≢ m.home

-- the fields that a function returned, as a list
abbrev pub told_fields : Result (Vec ImageField) GatherError → Result (List ImageField) GatherError
told_fields (Ok fields) = Ok fields.items
told_fields (Err e) = Err e

abbrev pub told_field : Result ImageField GatherError → Result (List ImageField) GatherError
told_field (Ok f) = Ok (f ∷ [])
told_field (Err e) = Err e

-- how values are told, or that one leaves the bunch
abbrev pub GoesOn : (ℕ → Option ℕ) → List Val → Mentions → Mentions → Result (List ImageField) GatherError → Type 0
GoesOn bunch values old new (Ok fields) = Goes bunch values fields old new
GoesOn bunch values old new (Err error.NoMemory) = Unit {0}
GoesOn bunch values old new (Err error.Crosses) = DoesLeave bunch values old
GoesOn bunch values old new (Err error.Large) = ⊥

-- objects of the first names were gathered
pub record HasGathered (bunch : ℕ → Option ℕ) (fields : ℕ → List Val) (anchor : ℕ) (m : Mentions) (objects : List ImageObject) : Type 0 where
  pub placed : IsPlaced m
  pub first : slice_get m.names.items 0 ≡ Some anchor
  pub home : m.home ≡ bunch anchor
  pub reached : (x : ℕ) → Contains m.names.items x → IsReached bunch fields anchor x
  pub few : length objects ≤ length m.names.items
  pub told : TellObjects fields m.names.items objects
  pub fits : (count : ℕ) → length m.names.items ≤ count → EachFits (StandsBehind count) [] objects
  pub top : top_of objects ≡ length m.names.items - 1
