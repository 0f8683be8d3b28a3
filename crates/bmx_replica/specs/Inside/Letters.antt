-- Infos that were learned one after another, and how what is known of an object follows them.
use Rattle.std.specs.Prelude.{◌≡◌, ◌≢◌, ◌⊎◌, ℕ, ◌+◌, ◌≤◌, ◌==◌, ◌&&◌, not, nat_lt, Bool, true, if◌then◌else◌, List, [], ◌∷◌, Option, Some, None}
use Rattle.bmx_types.specs.declared.addresses.Info.{Info}
use Rattle.bmx_segment.specs.Headers.{header_words}
use Rattle.bmx_segment.specs.Stores.{key_at}
use Rattle.bmx_replica.specs.Letters.{Sketch, with_learned}
use Rattle.bmx_replica.specs.declared.letters.News.{News}
use Rattle.bmx_replica.specs.declared.letters.News.TheVariants.{Clash, Old, New}

-- the sketch once all of them are learned
abbrev pub after : Sketch → List Info → Sketch
after s [] = s
after s (i ∷ more) = after (with_learned s i) more

-- an Info brings a place for an object of which that is known
abbrev pub brings_place : Info → Option Info → Bool
brings_place i None = true
brings_place i (Some k) = nat_lt k.place.moves i.place.moves

-- what is known once it is learned
abbrev pub known_with : Info → Option Info → Info
known_with i None = i
known_with i (Some k) = if nat_lt k.place.moves i.place.moves then record k { place = i.place } else k

-- what is known of a name once all of them are learned
abbrev pub known_after : Option Info → ℕ → List Info → Option Info
known_after o name [] = o
known_after o name (i ∷ more) = known_after (if i.name == name then Some (known_with i o) else o) name more

-- what an Info tells of an object of which that is known
abbrev pub told_beside : Info → Option Info → News
told_beside i None = New
told_beside i (Some k) =
    if not (k.bunch == i.bunch && k.size == i.size) then Clash
    else (if not (nat_lt k.place.moves i.place.moves) then Old else (if k.place.address == i.place.address then Clash else New))

-- what is told can be learned, where the object can lie at a new place
abbrev pub Admits : News → Type 0 → Type 0
Admits Clash lies = ⊥
Admits Old lies = Unit {0}
Admits New lies = lies

-- the object of an Info leaves the place of another one to it: they share no word, or are the same
pub record Clears (other i : Info) : Type 0 where
  pub alone : key_at other.place.address ≡ key_at i.place.address → other.place.address ≢ i.place.address
      → (other.place.address + header_words + other.size ≤ i.place.address) ⊎ (i.place.address + header_words + i.size ≤ other.place.address)
  pub same : other.place.address ≡ i.place.address → (other.name ≡ i.name) × (other.size ≡ i.size)
