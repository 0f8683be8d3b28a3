-- Worked by hand: an anchor with a list of three objects, and one item of each kind that doesn't fit.
use Rattle.std.specs.Prelude.{◌≡◌, ℕ, pos, List, [], ◌∷◌, ◌++◌, length, replicate, Some, None, refl}
use Rattle.bmx_image.specs.declared.faults.ImageCause.TheVariants as cause
use Rattle.bmx_image.specs.declared.images.ImageField.{ImageField}
use Rattle.bmx_image.specs.declared.images.ImageField.TheVariants as field
use Rattle.bmx_image.specs.declared.images.ImageObject.{ImageObject}
use Rattle.bmx_image.specs.Spelling.{head_bytes, image_bytes, object_bytes}
use Rattle.bmx_image.specs.Images.{top_of}
use Rattle.bmx_image.specs.Faults.{short, told_of, head_fault, size_fault, field_fault}

-- so many zeros, and then these
abbrev zeros : ℕ → List ℕ → List ℕ
zeros n bytes = replicate n 0 ++ bytes

-- an object of the list: its number, and what it refers to
abbrev link : ℕ → ImageField → ImageObject
link n next = record { fields = field.Int (pos n) ∷ next ∷ [] }

-- the anchor refers to the first of three, each of these to the next
abbrev list_of_three : List ImageObject
list_of_three = record { fields = field.Ref 1 ∷ replicate 31 field.Null } ∷ link 1 (field.Ref 2) ∷ link 2 (field.Ref 3) ∷ link 3 field.Null ∷ []

the_anchor : object_bytes (record { fields = field.Ref 1 ∷ replicate 31 field.Null }) ≡ 0x20 ∷ 2 ∷ 0 ∷ 0 ∷ 0 ∷ 1 ∷ replicate 31 0
the_anchor = refl

first_of_three : object_bytes (link 1 (field.Ref 2)) ≡ 2 ∷ 1 ∷ zeros 7 (1 ∷ 2 ∷ 0 ∷ 0 ∷ 0 ∷ 2 ∷ [])
first_of_three = refl

its_size : length (image_bytes list_of_three) ≡ 88
its_size = refl

its_top : top_of list_of_three ≡ 3
its_top = refl

-- the fourth byte is another, or is missing
wrong_letter : head_fault (0x42 ∷ 0x4d ∷ 0x58 ∷ 0x4a ∷ 0 ∷ []) ≡ Some (record { left = 2; cause = cause.Magic })
wrong_letter = refl

its_place : told_of (0x42 ∷ 0x4d ∷ 0x58 ∷ 0x4a ∷ 0 ∷ []) (record { left = 2; cause = cause.Magic }) ≡ record { place = 3; cause = cause.Magic }
its_place = refl

three_letters : head_fault (0x42 ∷ 0x4d ∷ 0x58 ∷ []) ≡ Some short
three_letters = refl

the_end_is_its_place : told_of (0x42 ∷ 0x4d ∷ 0x58 ∷ []) short ≡ record { place = 3; cause = cause.Short }
the_end_is_its_place = refl

-- a later version, told at its first byte
version_two : head_fault (0x42 ∷ 0x4d ∷ 0x58 ∷ 0x49 ∷ 0 ∷ 2 ∷ 0 ∷ []) ≡ Some (record { left = 3; cause = cause.Magic })
version_two = refl

no_objects : head_fault (head_bytes 0) ≡ Some (record { left = 4; cause = cause.Size })
no_objects = refl

the_most_objects : head_fault (head_bytes 20000) ≡ None
the_most_objects = refl

too_many_objects : head_fault (head_bytes 20001) ≡ Some (record { left = 4; cause = cause.Size })
too_many_objects = refl

-- an anchor of 31 fields, an object of 33, one that nothing before it mentions, whatever its size is
small_anchor : size_fault 0 0 (31 ∷ []) ≡ Some (record { left = 1; cause = cause.Size })
small_anchor = refl

large_object : size_fault 1 1 (33 ∷ []) ≡ Some (record { left = 1; cause = cause.Size })
large_object = refl

unmentioned_object : size_fault 2 1 (33 ∷ []) ≡ Some (record { left = 1; cause = cause.Order })
unmentioned_object = refl

unknown_tag : field_fault 4 0 (3 ∷ 0 ∷ []) ≡ Some (record { left = 2; cause = cause.Tag })
unknown_tag = refl

-- an index not below the count, told behind its tag; one that skips an object; the next object's
no_such_object : field_fault 4 2 (2 ∷ 0 ∷ 0 ∷ 0 ∷ 4 ∷ []) ≡ Some (record { left = 4; cause = cause.Target })
no_such_object = refl

skipped_object : field_fault 4 1 (2 ∷ 0 ∷ 0 ∷ 0 ∷ 3 ∷ []) ≡ Some (record { left = 4; cause = cause.Order })
skipped_object = refl

next_object : field_fault 4 2 (2 ∷ 0 ∷ 0 ∷ 0 ∷ 3 ∷ []) ≡ None
next_object = refl

-- a number without its last byte
seven_bytes : field_fault 4 0 (1 ∷ replicate 7 0) ≡ Some short
seven_bytes = refl
