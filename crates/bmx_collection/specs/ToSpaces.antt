-- What a collection makes of the places: each object that is owned and kept moves to a segment made for it, the header
-- where it lay leads there, and the header of each forgotten object is dead.
use Rattle.std.specs.Prelude.{false, [], ◌∷◌, ◌≡◌, refl, ◌&&◌, ◌*◌, ℕ, zero, suc, ◌+◌, nat_lt, nat_le, Bool, true, if◌then◌else◌, List, sum_by, Option, Some, None, is_some}
use Rattle.std.specs.Option.{option_map, option_map_or}
use Rattle.std.specs.List.{fold}
use Rattle.bmx_types.specs.Words.{address_word}
use Rattle.bmx_types.specs.declared.addresses.Place.{Place}
use Rattle.bmx_types.specs.declared.values.Val.TheVariants as val
use Rattle.bmx_types.specs.Updates.{put, put_at}
use Rattle.bmx_space.specs.Spaces.{segments_for}
use Rattle.bmx_protocol.specs.Nodes.{NodeState}
use Rattle.bmx_protocol.specs.Places.{no_places, Places, Header, Died, with_went, with_object}
use Rattle.bmx_token.specs.Tokens.{owner_part}

-- ## what is forgotten

-- a header is dead
abbrev pub dead : Header → Header
dead h = record h { standing = Died }

-- the object of a name, which lay at a place, lies nowhere, and its header is dead
abbrev pub with_dead_at : Places → ℕ → Option Place → Places
with_dead_at a name None = a
with_dead_at a name (Some p) = record a { place = put a.place name None; header = put a.header p.address (option_map dead (a.header p.address)) }

abbrev pub with_dead : Places → ℕ → Places
with_dead a name = with_dead_at a name (a.place name)

-- ## what is made

-- the words that the objects of names take, each with its header
abbrev pub size_at : NodeState → ℕ → ℕ
size_at s name = option_map_or (λ k. k.size) (s.known name) 0

abbrev pub words_for : NodeState → List ℕ → ℕ
words_for s names = sum_by (λ name. 4 + size_at s name) names

-- the segments for all objects of the bunch that the node owns, kept or not, would pass the limit
abbrev pub is_too_large : ℕ → NodeState → Places → List ℕ → Bool
is_too_large limit s a owned = nat_lt limit (a.made + segments_for (words_for s owned))

-- so many own segments are made and mapped; none is open
abbrev pub with_segments : ℕ → Places → ℕ → Places
with_segments me a zero = a
with_segments me a (suc n) = with_segments me (record a {
  mapped = put_at a.mapped me (a.made + 1) true;
  handed = put a.handed (a.made + 1) 0;
  made = a.made + 1;
}) n

-- ## what moves

-- places while objects move into segments, the segment that is filled, and the last one used
pub record Filling : Type 0 where
  pub places : Places
  pub at : ℕ
  pub used : Option ℕ

-- the segment for so many words: the one that is filled, or the next one where they don't fit
abbrev pub segment_at : Places → ℕ → ℕ → ℕ
segment_at a at words = if nat_le (a.handed at + words) 1024 then at else at + 1

-- an object goes from its place to the next words of a segment, one move more
abbrev pub moved_to : ℕ → Places → ℕ → ℕ → ℕ → Option Place → Places
moved_to me a segment name size None = a
moved_to me a segment name size (Some old) =
    let to : ℕ = address_word me segment (a.handed segment) in
    with_object (with_went (record a { handed = put a.handed segment (a.handed segment + (4 + size)) }) old.address to) name size
    (record { address = to; moves = old.moves + 1 })

-- one object moves
abbrev pub move : ℕ → NodeState → Filling → ℕ → Filling
move me s f name =
    let segment : ℕ = segment_at f.places f.at (4 + size_at s name) in
    record { places = moved_to me f.places segment name (size_at s name) (f.places.place name); at = segment; used = Some segment }

-- the last segment used is open for the bunch where it had none open; what is free in it is what is behind
abbrev pub opened_last : Filling → ℕ → Places
opened_last f bunch =
    if is_some (f.places.opened bunch) then f.places else record f.places { opened = put f.places.opened bunch f.used }

-- ## the places after a collection

-- the places once these names of the bunch are forgotten and those have moved, where the node owned so many
abbrev pub places_collected : ℕ → NodeState → Places → ℕ → List ℕ → List ℕ → List ℕ → Places
places_collected me s a bunch owned gone moved =
    let b : Places = with_segments me (fold with_dead a gone) (segments_for (words_for s owned)) in
    opened_last (fold (move me s) (record { places = b; at = a.made + 1; used = None }) moved) bunch

-- ## cases

-- a node that owns 30 objects of 32 fields, each in segment 1: they take 1,080 words, so that two segments are needed
thirty : NodeState
thirty = record {
  known = λ x. if nat_lt 0 x && nat_lt x 31 then Some (record { bunch = 0; size = 32; copy = None; part = owner_part }) else None;
  register = λ r. val.Null;
  entering = λ x m. None;
  issued = λ m. 0;
  taken = λ m. 0;
  clock = 0;
  made = 30;
}

placed : Places
placed = record no_places { made = 2; place = λ x. if nat_lt 0 x && nat_lt x 31 then Some (record { address = address_word 0 1 (36 * x); moves = 0 }) else None }

thirty_names : List ℕ
thirty_names =
    1 ∷ 2 ∷ 3 ∷ 4 ∷ 5 ∷ 6 ∷ 7 ∷ 8 ∷ 9 ∷ 10 ∷ 11 ∷ 12 ∷ 13 ∷ 14 ∷ 15 ∷ 16 ∷ 17 ∷ 18 ∷ 19 ∷ 20 ∷ 21 ∷ 22 ∷ 23 ∷ 24 ∷ 25 ∷ 26 ∷ 27 ∷ 28 ∷ 29 ∷ 30
    ∷ []

two_are_needed : (is_too_large 4 thirty placed thirty_names ≡ false) × (is_too_large 3 thirty placed thirty_names ≡ true)
unfolding thirty placed thirty_names
two_are_needed = (refl, refl)

-- 28 of them fill segment 3 but for 16 words, the others follow in segment 4, which is open from then on
abbrev moved_all : Places
moved_all = places_collected 0 thirty placed 0 thirty_names [] thirty_names

in_two_segments :
    (moved_all.place 28 ≡ Some (record { address = address_word 0 3 972; moves = 1 }))
    × (moved_all.place 29 ≡ Some (record { address = address_word 0 4 0; moves = 1 }))
    × (moved_all.opened 0 ≡ Some 4) × (moved_all.handed 3 ≡ 1008) × (moved_all.handed 4 ≡ 72) × (moved_all.made ≡ 4)
unfolding thirty placed thirty_names
in_two_segments = (refl, refl, refl, refl, refl, refl)

-- what is open stays open
stays_open : (places_collected 0 thirty (record placed { opened = λ b. Some 1 }) 0 thirty_names [] thirty_names).opened 0 ≡ Some 1
unfolding thirty placed thirty_names
stays_open = refl
