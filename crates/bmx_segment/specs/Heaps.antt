-- The heap of one node: its mapped segments, and what it made and handed out of its own.
use Rattle.std.specs.Prelude.{◌≡◌, ℕ, ◌+◌, ◌-◌, ◌<◌, ◌≤◌, ◌==◌, if◌then◌else◌, List, [], ◌∷◌, ◌++◌, length, slice_index_or, slice_set, slice_get, replicate, Contains, Option, Some, None}
use Rattle.std.proofs.Common.{zero, suc}
use Rattle.bmx_types.specs.Words.{address_word, home_of, segment_of, index_of}
use Rattle.bmx_segment.specs.Headers.{header_words}
use Rattle.bmx_segment.specs.Blocks.{Block, segment_words}
use Rattle.bmx_segment.specs.Stores.{header_at, IsMapped, Maps, CanStandAt}
use Rattle.bmx_segment.specs.declared.headers.Header.{Header}
use Rattle.bmx_segment.specs.declared.segments.Own.{Own}

-- a node's number, the most segments that it may make, the bunch of each of its own segments and how
-- many of its words were handed out, from segment 1 on, the number of the open segment of each bunch,
-- the mapped segments of all homes, and how many more can be mapped without memory
pub record Heap : Type 0 where
  pub me : ℕ
  pub limit : ℕ
  pub own : List Own
  pub current : List (Option ℕ)
  pub blocks : List Block
  pub spare : ℕ

-- how many segments the node made
abbrev pub made_of : Heap → ℕ
made_of h = length h.own

-- an own segment, None where it isn't made
abbrev pub own_at : List Own → ℕ → Option Own
own_at own number = if number == 0 then None else slice_get own (number - 1)

-- the words handed out of a segment, 0 where it isn't made
abbrev pub handed_in : Option Own → ℕ
handed_in None = 0
handed_in (Some o) = o.handed

-- and those that weren't
abbrev pub left_in : Option Own → ℕ
left_in None = 0
left_in (Some o) = segment_words - o.handed

-- how many words of an own segment were handed out
abbrev pub handed_of : Heap → ℕ → ℕ
handed_of h number = handed_in (own_at h.own number)

-- how many words of an own segment weren't, 0 where it isn't made
abbrev pub left_of : Heap → ℕ → ℕ
left_of h number = left_in (own_at h.own number)

-- the number of a bunch's open segment
abbrev pub current_of : Heap → ℕ → Option ℕ
current_of h bunch = slice_index_or h.current bunch None

-- the words left in the open segment of that number, if any
abbrev pub room_in : Heap → Option ℕ → ℕ
room_in h None = 0
room_in h (Some number) = left_of h number

-- a segment is the open one of some bunch
abbrev pub IsOpen : Heap → ℕ → ℕ → Type 0
IsOpen h home number = (home ≡ h.me) × Contains h.current (Some number)

-- how many words are left in a bunch's open segment, 0 where none is open
abbrev pub room_of : Heap → ℕ → ℕ
room_of h bunch = room_in h (current_of h bunch)

-- so many more words of the i-th own segment were handed out, from 0
abbrev pub raised : List Own → ℕ → ℕ → List Own
raised [] i more = []
raised (o ∷ os) zero more = record o { handed = o.handed + more } ∷ os
raised (o ∷ os) (suc i) more = o ∷ raised os i more

-- so many more words of the own segment of a number were handed out
abbrev pub with_handed : List Own → ℕ → ℕ → List Own
with_handed own number more = raised own (number - 1) more

-- a header of that name and size can be set at an address: it can begin there, and in an own segment
-- its words were handed out
pub record CanSet (h : Heap) (address name size : ℕ) : Type 0 where
  pub stands : CanStandAt h.blocks address name size
  pub handed : home_of address ≡ h.me → index_of address + header_words + size ≤ handed_of h (segment_of address)

-- a bunch's open segment is made and mapped and the bunch's own
pub record IsOpenOne (h : Heap) (bunch number : ℕ) : Type 0 where
  pub some : 0 < number
  pub a_made : number ≤ made_of h
  pub of_bunch : (o : Own) → own_at h.own number ≡ Some o → o.bunch ≡ bunch
  pub mapped : IsMapped h.blocks h.me number

-- some segments of a bunch are made and mapped, with the next numbers
pub record Makes (old new : Heap) (bunch more : ℕ) : Type 0 where
  pub own : new.own ≡ old.own ++ replicate more (record { bunch = bunch; handed = 0 })
  pub mapped : Maps old.blocks new.blocks old.me (made_of old + 1) more
  pub rest : new ≡ record old { own = new.own; blocks = new.blocks }

-- the next words of an open segment are handed out
pub record PlacesIn (old new : Heap) (number size at : ℕ) : Type 0 where
  pub address : at ≡ address_word old.me number (handed_of old number)
  pub handed : new ≡ record old { own = with_handed old.own number (header_words + size) }

-- a segment is made, mapped and opened for the bunch, and its first words are handed out
pub record PlacesInNew (old new : Heap) (bunch size at : ℕ) : Type 0 where
  pub address : at ≡ address_word old.me (made_of old + 1) 0
  pub own : new.own ≡ old.own ++ record { bunch = bunch; handed = header_words + size } ∷ []
  pub current : new.current ≡ slice_set old.current bunch (Some (made_of old + 1))
  pub mapped : Maps old.blocks new.blocks old.me (made_of old + 1) 1
  pub rest : new ≡ record old { own = new.own; current = new.current; blocks = new.blocks }

-- what a heap keeps: the headers in the node's own segments lie in words that were handed out, so what
-- is handed out next is free
pub record IsHeap (h : Heap) : Type 0 where
  pub few : h.limit ≤ 65535
  pub few_made : made_of h ≤ 65535
  pub bunches : length h.current ≡ 16
  pub handed : (number : ℕ) → handed_of h number ≤ segment_words
  pub current : (bunch number : ℕ) → current_of h bunch ≡ Some number → IsOpenOne h bunch number
  pub within : (a : ℕ) (x : Header) → home_of a ≡ h.me → header_at h.blocks a ≡ Some x → index_of a + header_words + x.size ≤ handed_of h (segment_of a)
