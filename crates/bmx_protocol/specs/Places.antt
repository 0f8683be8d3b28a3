-- Where objects lie at one node: beside the view, and seen by no program. A node hands out the words of
-- its own segments in order and once, and keeps a header in front of each object that it knows.
use Rattle.std.specs.Prelude.{ℕ, zero, suc, ◌+◌, ◌==◌, ◌&&◌, ◌||◌, not, nat_lt, nat_le, Bool, true, false, if◌then◌else◌, List, [], ◌∷◌, ◌++◌, length, filter, Option, Some, None}
use Rattle.std.specs.Option.{option_map_or}
use Rattle.bmx_types.specs.Words.{address_word, home_of, segment_of, index_of}
use Rattle.bmx_types.specs.Openings.{bunches_of}
use Rattle.bmx_types.specs.declared.addresses.Place.{Place}
use Rattle.bmx_types.specs.declared.addresses.Info.{Info}
use Rattle.bmx_types.specs.declared.openings.Birth.{Birth}
use Rattle.bmx_types.specs.Updates.{put, put_at}
use Rattle.bmx_protocol.specs.Nodes.{Setting, Known, is_anchor}

-- what a header says of the words behind it: the object lies here, it went to another address, or it
-- is forgotten
pub data Standing : Type 0 where
  Lives : (moves : ℕ) → Standing
  Went : (to : ℕ) → Standing
  Died : Standing

-- a header: the object's name, how many fields it has, and how it stands
pub record Header : Type 0 where
  pub name : ℕ
  pub size : ℕ
  pub standing : Standing

-- where objects lie at one node
pub record Places : Type 0 where
  -- where the object of a name lies, None where the node has no entry of it
  pub place : ℕ → Option Place
  -- the header that begins at an address
  pub header : ℕ → Option Header
  -- the segments that are mapped, by home and number
  pub mapped : ℕ → ℕ → Bool
  -- how many words of an own segment were handed out, from its first on
  pub handed : ℕ → ℕ
  -- the own segment that is open for a bunch
  pub opened : ℕ → Option ℕ
  -- how many own segments were made
  pub made : ℕ

-- ## making

-- the bunch's open segment has that many words left
abbrev pub has_room : Places → Option ℕ → ℕ → Bool
has_room a None words = false
has_room a (Some segment) words = nat_le (a.handed segment + words) 1024

-- no object of that bunch and size can be made within the limit of segments
abbrev pub is_full : ℕ → Places → ℕ → ℕ → Bool
is_full limit a bunch size = nat_le limit a.made && not (has_room a (a.opened bunch) (4 + size))

-- a new segment is open for the bunch
abbrev pub with_segment : ℕ → Places → ℕ → Places
with_segment me a bunch = record a {
  mapped = put_at a.mapped me (a.made + 1) true;
  handed = put a.handed (a.made + 1) 0;
  opened = put a.opened bunch (Some (a.made + 1));
  made = a.made + 1;
}

-- the places with a segment open for the bunch that has room
abbrev pub with_room : ℕ → Places → ℕ → ℕ → Places
with_room me a bunch size = if has_room a (a.opened bunch) (4 + size) then a else with_segment me a bunch

-- an object lies at an address, and its header stands there
abbrev pub with_object : Places → ℕ → ℕ → Place → Places
with_object a name size place = record a {
  place = put a.place name (Some place);
  header = put a.header place.address (Some (record { name = name; size = size; standing = Lives place.moves }));
  mapped = put_at a.mapped (home_of place.address) (segment_of place.address) true;
}

-- the next words of a segment are handed out to an object, which hasn't moved
abbrev pub with_placed : ℕ → Places → ℕ → ℕ → Option ℕ → Places
with_placed me a name size None = a
with_placed me a name size (Some segment) =
    with_object (record a { handed = put a.handed segment (a.handed segment + (4 + size)) }) name size
    (record { address = address_word me segment (a.handed segment); moves = 0 })

-- an object is made: it lies in the bunch's open segment, or in a new one where that lacks room
abbrev pub with_made : ℕ → Places → ℕ → ℕ → ℕ → Places
with_made me a name bunch size =
    let b : Places = with_room me a bunch size in
    with_placed me b name size (b.opened bunch)

-- ## learning

-- two runs of words share a word
abbrev pub overlaps : ℕ → ℕ → ℕ → ℕ → Bool
overlaps i words j others = nat_lt i (j + others) && nat_lt j (i + words)

-- some number below n passes
abbrev pub any_below : ℕ → (ℕ → Bool) → Bool
any_below zero test = false
any_below (suc n) test = test n || any_below n test

-- the header at an address itself is of another name or size
abbrev pub is_another : ℕ → ℕ → Header → Bool
is_another name size h = not (h.name == name && h.size == size)

-- the header at word j of the segment, or the object behind it, shares a word with an object of that size from word i
abbrev pub is_across : ℕ → ℕ → ℕ → Header → Bool
is_across size i j h = overlaps i (4 + size) j (4 + h.size)

-- the header at word j keeps an object of that name and size from word i
abbrev pub is_in_the_way : ℕ → ℕ → ℕ → ℕ → Header → Bool
is_in_the_way name size i j h = if j == i then is_another name size h else is_across size i j h

-- an object of that name and size can't lie at an address: it would leave the segment, meet a header
-- in the way, or lie in words of this node's own that were never handed out
abbrev pub is_barred : ℕ → Places → ℕ → ℕ → ℕ → Bool
is_barred me a name size address =
    let home : ℕ = home_of address in
    let segment : ℕ = segment_of address in
    let i : ℕ = index_of address in
    nat_lt 1024 (i + (4 + size))
    || (home == me && nat_lt (a.handed segment) (i + (4 + size)))
    || any_below 1024 (λ j. option_map_or (is_in_the_way name size i j) (a.header (address_word home segment j)) false)

-- an address went over to another
abbrev pub with_went : Places → ℕ → ℕ → Places
with_went a old new = record a { header = put a.header old (went_to (a.header old) new) }
  where
    went_to : Option Header → ℕ → Option Header
    went_to None new = None
    went_to (Some h) new = Some (record h { standing = Went new })

-- the place in an Info is learnt where it is newer: where the node had none, or one of fewer moves,
-- whose header then leads to the new one
abbrev pub learn_at : Places → Info → Option Place → Places
learn_at a info None = with_object a info.name info.size info.place
learn_at a info (Some old) =
    if nat_lt old.moves info.place.moves
    then with_object (with_went a old.address info.place.address) info.name info.size info.place
    else a

-- the places after an Info
abbrev pub with_learnt : Places → Info → Places
with_learnt a info = learn_at a info (a.place info.name)

-- the places after Infos, one after another
abbrev pub with_all_learnt : Places → List Info → Places
with_all_learnt a [] = a
with_all_learnt a (info ∷ infos) = with_all_learnt (with_learnt a info) infos

-- what is known of an object is of another bunch or size than an Info says
abbrev pub differs : Known → Info → Bool
differs k info = not (k.bunch == info.bunch && k.size == info.size)

-- a newer place can't be taken over: it is the old address with more moves, or barred
abbrev pub clashes_at : ℕ → Places → Info → Option Place → Bool
clashes_at me a info None = is_barred me a info.name info.size info.place.address
clashes_at me a info (Some old) =
    if nat_lt old.moves info.place.moves
    then (if old.address == info.place.address then true else is_barred me a info.name info.size info.place.address)
    else false

-- ## the opening

-- no object and no segment
abbrev pub no_places : Places
no_places = record {
  place = λ name. None;
  header = λ address. None;
  mapped = λ home segment. false;
  handed = λ segment. 0;
  opened = λ bunch. None;
  made = 0;
}

-- births are placed one after another
abbrev pub with_births : Places → List Birth → Places
with_births a [] = a
with_births a (b ∷ bs) = with_births (with_made 0 a b.name b.bunch (length b.fields)) bs

-- births by bunch, in the order of the first n bunches
abbrev pub by_bunch : List Birth → ℕ → List Birth
by_bunch births zero = []
by_bunch births (suc n) = by_bunch births n ++ filter (λ b. b.bunch == n) births

-- where node 0's objects lie at first, and where the others have heard that the anchors lie
abbrev pub owner_places : Setting → Places
owner_places st = with_births no_places (by_bunch st.births (bunches_of st.births))

-- an object lies at another node where it lies here
abbrev pub told_place : Places → Option Place → Birth → Places
told_place a None b = a
told_place a (Some place) b = with_object a b.name (length b.fields) place

abbrev pub with_told : Places → Places → List Birth → Places
with_told told a [] = a
with_told told a (b ∷ bs) = with_told told (told_place a (told.place b.name) b) bs

-- where objects lie at a node at first; a number that is no node of the store has nothing
abbrev pub first_places : Setting → ℕ → Places
first_places st me =
    if me == 0 then owner_places st
    else (if nat_lt me st.nodes then with_told (owner_places st) no_places (filter (λ b. is_anchor st b.name) st.births) else no_places)
