-- The bytes that an image spells. Numbers are big-endian. Which objects make an image, Images says.
use Rattle.std.specs.Prelude.{◌≡◌, ℕ, pos, negsuc, List, [], ◌∷◌, ◌++◌, length, refl}
use Rattle.std.specs.Int.{w64, cast_unsigned}
use Rattle.std.specs.List.{flat_map}
use Rattle.byteorder.specs.Endian.{big_bytes}
use Rattle.bmx_image.specs.declared.images.ImageField.{ImageField}
use Rattle.bmx_image.specs.declared.images.ImageField.TheVariants as field
use Rattle.bmx_image.specs.declared.images.ImageObject.{ImageObject}

-- the first four bytes, `BMXI`
abbrev pub magic : List ℕ
magic = 0x42 ∷ 0x4d ∷ 0x58 ∷ 0x49 ∷ []

-- a field: the tag 0 for null; 1 and the eight bytes of a number in two's complement; 2 and the four
-- bytes of an object's index
abbrev pub field_bytes : ImageField → List ℕ
field_bytes field.Null = 0 ∷ []
field_bytes (field.Int k) = 1 ∷ big_bytes 8 (cast_unsigned w64 k)
field_bytes (field.Ref index) = 2 ∷ big_bytes 4 index

-- an object: how many fields it has, and these
abbrev pub object_bytes : ImageObject → List ℕ
object_bytes o = length o.fields ∷ flat_map field_bytes o.fields

-- what stands before so many objects: the first four bytes, the version 1 and the count
abbrev pub head_bytes : ℕ → List ℕ
head_bytes count = (magic ++ big_bytes 2 1) ++ big_bytes 4 count

-- an image of these objects
abbrev pub image_bytes : List ImageObject → List ℕ
image_bytes objects = head_bytes (length objects) ++ flat_map object_bytes objects

minus_two : field_bytes (field.Int (negsuc 1)) ≡ 1 ∷ 255 ∷ 255 ∷ 255 ∷ 255 ∷ 255 ∷ 255 ∷ 255 ∷ 254 ∷ []
minus_two = refl

the_head_of_four : head_bytes 4 ≡ 0x42 ∷ 0x4d ∷ 0x58 ∷ 0x49 ∷ 0 ∷ 1 ∷ 0 ∷ 0 ∷ 0 ∷ 4 ∷ []
the_head_of_four = refl

-- a number and a reference to the object behind the next
an_object : object_bytes (record { fields = field.Int (pos 1) ∷ field.Ref 2 ∷ [] }) ≡ 2 ∷ 1 ∷ 0 ∷ 0 ∷ 0 ∷ 0 ∷ 0 ∷ 0 ∷ 0 ∷ 1 ∷ 2 ∷ 0 ∷ 0 ∷ 0 ∷ 2 ∷ []
an_object = refl
