-- What is proved of reading and spelling themselves.
use Rattle.std.specs.Prelude.{◌≡◌, ℕ, ◌<◌, List, length, slice_index, Result, Ok}
use Rattle.byteorder.specs.Endian.{big_bytes, big_number}
use Rattle.bmx_image.specs.declared.faults.BadImage.{BadImage}
use Rattle.bmx_image.specs.declared.images.ImageObject.{ImageObject}
use Rattle.bmx_image.specs.Spelling.{image_bytes}
use Rattle.bmx_image.specs.Images.{IsImage}
use Rattle.bmx_image.specs.Faults.{IsReading}

-- bytes have one reading at most
abbrev pub ReadingIsDetermined : Type 0
ReadingIsDetermined = (bytes : List ℕ) (a b : Result (List ImageObject) BadImage) → IsReading bytes a → IsReading bytes b → a ≡ b

-- an image's spelling is read as that image, and as nothing else
abbrev pub ImageIsReadAgain : Type 0
ImageIsReadAgain = (objects : List ImageObject) (a : Result (List ImageObject) BadImage) → IsImage objects → IsReading (image_bytes objects) a → a ≡ Ok objects

-- no two byte strings are read as one image
abbrev pub ImageHasOneSpelling : Type 0
ImageHasOneSpelling = (objects : List ImageObject) (a b : List ℕ) → IsReading a (Ok objects) → IsReading b (Ok objects) → a ≡ b

-- the n bytes of a number are the only n bytes that read as it
abbrev pub NumberHasOneSpelling : Type 0
NumberHasOneSpelling = (n : ℕ) (bytes : List ℕ) → length bytes ≡ n → ((i : ℕ) → slice_index bytes i < 256) → big_bytes n (big_number n bytes) ≡ bytes
