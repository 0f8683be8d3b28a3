-- What contracts see of shelves: bytes under names. What isn't told is None; of that these facts
-- claim nothing.
use Rattle.std.specs.Prelude.{◌≡◌, ◌≢◌, ℕ, List, [], ◌∷◌, if◌then◌else◌, Option, Some, None}
use Rattle.std.specs.Str.{bytes_eq}
use Rattle.bmx_outside.specs.declared.mem_shelves.StoredFile.{StoredFile}
use Rattle.bmx_outside.specs.Memory.{Plan}

-- the bytes under each name that has some
abbrev pub Files : Type 0
Files = List ℕ → Option (List ℕ)

-- all other names have what they had
abbrev pub KeepsOthers : List ℕ → Files → Files → Type 0
KeepsOthers name old new = (other : List ℕ) → other ≢ name → new other ≡ old other

-- the name has these bytes, and all others have what they had
abbrev pub Stores : List ℕ → List ℕ → Files → Files → Type 0
Stores name bytes old new = (new name ≡ Some bytes) × KeepsOthers name old new

-- a fact about the files before and after, where they are told
abbrev pub IfTold : Option Files → Option Files → (Files → Files → Type 0) → Type 0
IfTold None new P = Unit {0}
IfTold (Some old) None P = ⊥
IfTold (Some old) (Some new) P = P old new

-- the bytes under a name in a list of files: those of the first file of that name
abbrev pub file_of : List StoredFile → Files
file_of [] name = None
file_of (f ∷ fs) name = if bytes_eq f.name name then Some f.bytes else file_of fs name

-- a shelf in memory with a plan of its faults
pub record FaultyShelf : Type 0 where
  pub files : List StoredFile
  pub plan : Plan
