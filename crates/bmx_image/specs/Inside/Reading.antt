-- What the private functions that read an image answer, part by part.
use Rattle.std.specs.Prelude.{◌≡◌, ℕ, ◌++◌, List, max, Result, Ok, Err}
use Rattle.bmx_image.specs.declared.faults.Stop.{Stop}
use Rattle.bmx_image.specs.declared.faults.Stop.TheVariants as stop
use Rattle.bmx_image.specs.declared.images.Image.{Image}
use Rattle.bmx_image.specs.declared.reading.Before.{Before}
use Rattle.bmx_image.specs.declared.reading.Read.{Read}
use Rattle.bmx_image.specs.Spelling.{object_bytes}
use Rattle.bmx_image.specs.Images.{ObjectFits, top_of_fields}
use Rattle.bmx_image.specs.Faults.{IsFault, IsObjectFault, IsReading}

-- an object at the start of bytes, which fits behind what stands before it
pub record IsRead (before : Before) (bytes : List ℕ) (r : Read) : Type 0 where
  pub parts : bytes ≡ object_bytes r.object ++ r.rest.now
  pub fits : ObjectFits before.count before.index before.top r.object
  pub top : r.top ≡ max before.top (top_of_fields r.object.fields)

-- the object at the start of bytes, or its first item that doesn't fit
abbrev pub IsObject : Before → List ℕ → Result Read Stop → Type 0
IsObject before bytes (Ok r) = IsRead before bytes r
IsObject before bytes (Err stop.NoMemory) = Unit {0}
IsObject before bytes (Err (stop.Fault f)) = IsObjectFault before.count before.index before.top bytes f

-- the image that bytes spell, or the first item that doesn't fit
abbrev pub IsImageOf : List ℕ → Result Image Stop → Type 0
IsImageOf bytes (Ok image) = IsReading bytes (Ok image.objects)
IsImageOf bytes (Err stop.NoMemory) = Unit {0}
IsImageOf bytes (Err (stop.Fault f)) = IsFault bytes f
