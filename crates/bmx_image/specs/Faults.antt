-- What bytes come to as an image: the objects whose spelling they are, or the first item, from the
-- left, that doesn't fit. Items are each of the first four bytes, the version, the count, and of each
-- object its size and of each field its tag, its number and its index.
use Rattle.std.specs.Prelude.{◌≡◌, ◌⊎◌, ℕ, zero, suc, ◌+◌, ◌-◌, ◌<◌, ◌==◌, if◌then◌else◌, nat_lt, nat_le, IsTrue, List, [], ◌∷◌, ◌++◌, length, drop, max, Option, Some, None, Result, Ok, Err}
use Rattle.std.specs.List.{flat_map}
use Rattle.byteorder.specs.Endian.{big_number}
use Rattle.bmx_image.specs.declared.images.Image.{Image}
use Rattle.bmx_image.specs.declared.images.ImageField.{ImageField}
use Rattle.bmx_image.specs.declared.images.ImageObject.{ImageObject}
use Rattle.bmx_image.specs.declared.faults.BadImage.{BadImage}
use Rattle.bmx_image.specs.declared.faults.Fault.{Fault}
use Rattle.bmx_image.specs.declared.faults.ImageError.{ImageError}
use Rattle.bmx_image.specs.declared.faults.ImageError.TheVariants as error
use Rattle.bmx_image.specs.declared.faults.ImageCause.{ImageCause}
use Rattle.bmx_image.specs.declared.faults.ImageCause.TheVariants as cause
use Rattle.bmx_image.specs.Spelling.{magic, field_bytes, head_bytes, object_bytes, image_bytes}
use Rattle.bmx_image.specs.Images.{EachFits, FitsBehind, StandsBehind, IsImage, is_count, is_size, top_of, top_of_fields}

-- A fault is told by how many bytes are left from its item on: the bytes end before the item is whole,
abbrev pub short : Fault
short = record { left = 0; cause = cause.Short }

-- or the item at the start of what is left is wrong.
abbrev pub at : ImageCause → List ℕ → Fault
at c bytes = record { left = length bytes; cause = c }

-- what is wrong at the start of bytes with the index of a field, in an image of count objects, where
-- the greatest index before it is top
abbrev pub index_fault : ℕ → ℕ → List ℕ → Option Fault
index_fault count top bytes =
    if nat_lt (length bytes) 4 then Some short
    else (if nat_le count (big_number 4 bytes) then Some (at cause.Target bytes)
    else (if nat_lt (top + 1) (big_number 4 bytes) then Some (at cause.Order bytes) else None))

-- what is wrong at the start of bytes with a field
abbrev pub field_fault : ℕ → ℕ → List ℕ → Option Fault
field_fault count top [] = Some short
field_fault count top (zero ∷ rest) = None
field_fault count top (suc zero ∷ rest) = if nat_lt (length rest) 8 then Some short else None
field_fault count top (suc (suc zero) ∷ rest) = index_fault count top rest
field_fault count top (suc (suc (suc t)) ∷ rest) = Some (at cause.Tag (suc (suc (suc t)) ∷ rest))

-- what is wrong at the start of bytes with the size of the object at this index, where the greatest
-- index before it is top: first, that no object may stand there
abbrev pub size_fault : ℕ → ℕ → List ℕ → Option Fault
size_fault index top [] = Some short
size_fault index top (size ∷ rest) =
    if nat_lt top index then Some (at cause.Order (size ∷ rest))
    else (if is_size index size then None else Some (at cause.Size (size ∷ rest)))

-- the first fields of an object fit, and the next one doesn't
pub record HasFieldFault (count index top : ℕ) (bytes : List ℕ) (f : Fault) : Type 0 where
  pub size : ℕ
  pub fields : List ImageField
  pub rest : List ℕ
  pub parts : bytes ≡ size ∷ (flat_map field_bytes fields ++ rest)
  pub sized : size_fault index top bytes ≡ None
  pub fit : EachFits (FitsBehind count top) [] fields
  pub fewer : length fields < size
  pub wrong : field_fault count (max top (top_of_fields fields)) rest ≡ Some f

-- the first item of an object that doesn't fit, at the start of bytes
abbrev pub IsObjectFault : ℕ → ℕ → ℕ → List ℕ → Fault → Type 0
IsObjectFault count index top bytes f = (size_fault index top bytes ≡ Some f) ⊎ HasFieldFault count index top bytes f

-- the first of the four bytes that isn't what it should be
abbrev pub magic_fault : List ℕ → List ℕ → Option Fault
magic_fault [] bytes = None
magic_fault (m ∷ ms) [] = Some short
magic_fault (m ∷ ms) (b ∷ bytes) = if b == m then magic_fault ms bytes else Some (at cause.Magic (b ∷ bytes))

-- what is wrong at the start of bytes with the version
abbrev pub version_fault : List ℕ → Option Fault
version_fault bytes =
    if nat_lt (length bytes) 2 then Some short
    else (if big_number 2 bytes == 1 then None else Some (at cause.Magic bytes))

-- what is wrong at the start of bytes with the count
abbrev pub count_fault : List ℕ → Option Fault
count_fault bytes =
    if nat_lt (length bytes) 4 then Some short
    else (if is_count (big_number 4 bytes) then None else Some (at cause.Size bytes))

-- the first fault, or else the second
abbrev pub first_fault : Option Fault → Option Fault → Option Fault
first_fault (Some f) g = Some f
first_fault None g = g

-- the first item that doesn't fit before the objects
abbrev pub head_fault : List ℕ → Option Fault
head_fault bytes = first_fault (magic_fault magic bytes) (first_fault (version_fault (drop 4 bytes)) (count_fault (drop 6 bytes)))

-- the first objects fit, and the next one doesn't
pub record HasObjectFault (bytes : List ℕ) (f : Fault) : Type 0 where
  pub count : ℕ
  pub objects : List ImageObject
  pub rest : List ℕ
  pub parts : bytes ≡ head_bytes count ++ (flat_map object_bytes objects ++ rest)
  pub counted : IsTrue (is_count count)
  pub fit : EachFits (StandsBehind count) [] objects
  pub fewer : length objects < count
  pub wrong : IsObjectFault count (length objects) (top_of objects) rest f

-- bytes follow an image
pub record Trails (bytes : List ℕ) (f : Fault) : Type 0 where
  pub objects : List ImageObject
  pub rest : List ℕ
  pub image : IsImage objects
  pub parts : bytes ≡ image_bytes objects ++ rest
  pub some : 0 < length rest
  pub told : f ≡ at cause.Trailing rest

-- the first item that doesn't fit
abbrev pub IsFault : List ℕ → Fault → Type 0
IsFault bytes f = (head_fault bytes ≡ Some f) ⊎ (HasObjectFault bytes f ⊎ Trails bytes f)

-- where it stands, counted from the first byte, and why it doesn't fit
abbrev pub told_of : List ℕ → Fault → BadImage
told_of bytes f = record { place = length bytes - f.left; cause = f.cause }

-- what bytes come to
abbrev pub IsReading : List ℕ → Result (List ImageObject) BadImage → Type 0
IsReading bytes (Ok objects) = IsImage objects × (bytes ≡ image_bytes objects)
IsReading bytes (Err bad) = (f : Fault) × IsFault bytes f × (bad ≡ told_of bytes f)

-- what decoding answers: what the bytes come to, unless memory runs out
abbrev pub IsAnswer : List ℕ → Result Image ImageError → Type 0
IsAnswer bytes (Ok image) = IsReading bytes (Ok image.objects)
IsAnswer bytes (Err error.NoMemory) = Unit {0}
IsAnswer bytes (Err (error.Bad bad)) = IsReading bytes (Err bad)
