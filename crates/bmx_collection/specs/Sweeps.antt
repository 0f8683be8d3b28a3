-- What a sweep makes of the places: each segment that isn't open and in which no object lies goes, with its headers.
-- A segment is told by the address of its first word.
use Rattle.std.specs.Prelude.{◌==◌, Option, ◌≡◌, refl, ℕ, Bool, true, false, if◌then◌else◌, List, Some, None}
use Rattle.std.specs.Option.{option_map_or}
use Rattle.bmx_types.specs.Words.{address_word, home_of, segment_of}
use Rattle.bmx_owner.specs.Records.{is_listed}
use Rattle.bmx_protocol.specs.Places.{Places, Header, Standing, Lives, Went, Died, any_below, no_places}

-- an object lies behind the header
abbrev pub is_live : Standing → Bool
is_live (Lives moves) = true
is_live (Went to) = false
is_live Died = false

-- an object lies in the segment
abbrev pub has_object : Places → ℕ → ℕ → Bool
has_object a home segment = any_below 1024 (λ j. option_map_or (λ h. is_live h.standing) (a.header (address_word home segment j)) false)

-- the first word of the segment that an address is in
abbrev pub first_word : ℕ → ℕ
first_word address = address_word (home_of address) (segment_of address) 0

-- a sweep drops the segment of this first word: it is mapped and isn't open, and no object lies in it
pub record IsDropped (me : ℕ) (a : Places) (first : ℕ) : Type 0 where
  pub is_first : first_word first ≡ first
  pub mapped : a.mapped (home_of first) (segment_of first) ≡ true
  pub closed : (bunch : ℕ) → home_of first ≡ me → a.opened bunch ≡ Some (segment_of first) → ⊥
  pub empty : has_object a (home_of first) (segment_of first) ≡ false

-- the places without these segments and their headers. Where objects lie stays, and each name's word, in a register
-- or a field, is from then on the address where its object lies
abbrev pub swept : List ℕ → Places → Places
swept dropped a = record a {
  mapped = λ home segment. if is_listed dropped (address_word home segment 0) then false else a.mapped home segment;
  header = λ address. if is_listed dropped (first_word address) then None else a.header address;
}

-- ## cases

-- the first word of the segment of an address
first_of_the_segment : (first_word (address_word 2 7 36) ≡ address_word 2 7 0) × (first_word (address_word 0 1 0) ≡ address_word 0 1 0)
first_of_the_segment = (refl, refl)

-- an object lies in a segment while one header there is live
header_at : Standing → ℕ → Option Header
header_at standing address = if address == address_word 0 1 36 then Some (record { name = 2; size = 1; standing = standing }) else None

by_its_headers :
    (has_object (record no_places { header = header_at (Lives 0) }) 0 1 ≡ true)
    × (has_object (record no_places { header = header_at (Went 5) }) 0 1 ≡ false)
    × (has_object (record no_places { header = header_at Died }) 0 1 ≡ false)
    × (has_object (record no_places { header = header_at (Lives 0) }) 0 2 ≡ false)
unfolding header_at
by_its_headers = (refl, refl, refl, refl)
