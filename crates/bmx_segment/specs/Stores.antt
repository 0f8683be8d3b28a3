-- The mapped segments, as a finite map from home and number to blocks of words.
use Rattle.std.specs.Prelude.{◌≡◌, ◌≢◌, ◌⊎◌, ℕ, ◌+◌, ◌-◌, ◌*◌, ◌^◌, ◌<◌, ◌≤◌, Bool, if◌then◌else◌, ◌==◌, ◌&&◌, nat_le, nat_lt, List, [], ◌∷◌, length, slice_index, slice_index_or, Option, Some, None, IsSome, IsSomeAnd, is_some, unwrap_or}
use Rattle.std.specs.Option.{option_and_then, option_map}
use Rattle.bmx_types.specs.Words.{home_of, segment_of, index_of}
use Rattle.bmx_types.specs.Updates.{Puts}
use Rattle.bmx_segment.specs.Blocks.{Block, header_in, CanStand, with_header, with_field, blank_block, live_in}
use Rattle.bmx_segment.specs.Headers.{header_words, with_kind_at, IsLive}
use Rattle.bmx_segment.specs.declared.headers.Header.{Header}

-- one number for a home and a segment's number there
abbrev pub segment_key : ℕ → ℕ → ℕ
segment_key home number = home * 2 ^ 32 + number

-- the number of a block
abbrev pub key_of : Block → ℕ
key_of b = segment_key b.home b.number

-- the number of the segment that an address is in
abbrev pub key_at : ℕ → ℕ
key_at address = segment_key (home_of address) (segment_of address)

-- the block of a segment
abbrev pub block_at : List Block → ℕ → Option Block
block_at [] key = None
block_at (b ∷ bs) key = if key_of b == key then Some b else block_at bs key

-- a segment is mapped
abbrev pub IsMapped : List Block → ℕ → ℕ → Type 0
IsMapped blocks home number = IsSome (block_at blocks (segment_key home number))

-- the header that begins at an address
abbrev pub header_at : List Block → ℕ → Option Header
header_at blocks address = option_and_then (λ b. header_in b (index_of address)) (block_at blocks (key_at address))

-- the word of a block, 0 where there is none
abbrev pub word_in : Option Block → ℕ → ℕ
word_in None i = 0
word_in (Some b) i = slice_index b.words i

-- the word at an address, 0 where no segment is mapped
abbrev pub word_at : List Block → ℕ → ℕ
word_at blocks address = word_in (block_at blocks (key_at address)) (index_of address)

-- how many live headers a segment has, 0 where it isn't mapped
abbrev pub live_of : Option Block → ℕ
live_of None = 0
live_of (Some b) = live_in b

-- where the block of a segment stands
pub record IsAt (blocks : List Block) (key i : ℕ) : Type 0 where
  pub within : i < length blocks
  pub keyed : (d : Block) → key_of (slice_index_or blocks i d) ≡ key
  pub found : (d : Block) → block_at blocks key ≡ Some (slice_index_or blocks i d)

-- the block at a place is taken out, and the last one takes its place
pub record TakesOut (old new : List Block) (i : ℕ) : Type 0 where
  pub fewer : length new + 1 ≡ length old
  pub here : (d : Block) → i + 1 < length old → slice_index_or new i d ≡ slice_index_or old (length old - 1) d
  pub others : (k : ℕ) (d : Block) → k ≢ i → k + 1 < length old → slice_index_or new k d ≡ slice_index_or old k d

-- no two headers share a word, their fields counted as theirs
abbrev pub AreApart : List Block → Type 0
AreApart blocks = (a b : ℕ) (x y : Header) → header_at blocks a ≡ Some x → header_at blocks b ≡ Some y → a < b → a + header_words + x.size ≤ b

-- a key is that of one of some segments in a row
abbrev pub is_between : ℕ → ℕ → ℕ → Bool
is_between key first more = nat_le first key && nat_lt key (first + more)

-- some segments in a row are mapped from now on: those that weren't are blank; each other segment has
-- the block that it had; so no header and no word changes, where a word that isn't mapped counts as 0
pub record Maps (old new : List Block) (home first more : ℕ) : Type 0 where
  pub blocks : (k : ℕ) → block_at new k
      ≡ (if is_between k (segment_key home first) more
      then Some (unwrap_or (block_at old k) (blank_block home (k - segment_key home 0)))
      else block_at old k)
  pub headers : (a : ℕ) → header_at new a ≡ header_at old a
  pub words : (a : ℕ) → word_at new a ≡ word_at old a

-- a header is set at an address: its segment's block has it from now on, no other header changes, and
-- only its four words do
pub record Sets (old new : List Block) (address : ℕ) (h : Header) : Type 0 where
  pub blocks : IsSomeAnd (block_at old (key_at address)) (λ b. Puts (block_at old) (block_at new) (key_at address) (Some (with_header b (index_of address) h)))
  pub mapped : (k : ℕ) → is_some (block_at new k) ≡ is_some (block_at old k)
  pub headers : Puts (header_at old) (header_at new) address (Some h)
  pub words : (a : ℕ) → (a < address) ⊎ (address + header_words ≤ a) → word_at new a ≡ word_at old a

-- an object is laid at an address: its header stands there and its fields have those words from now on; no
-- other header changes, and no word outside the object
pub record Lays (old new : List Block) (address : ℕ) (h : Header) (f : ℕ → ℕ) : Type 0 where
  pub mapped : (k : ℕ) → is_some (block_at new k) ≡ is_some (block_at old k)
  pub headers : Puts (header_at old) (header_at new) address (Some h)
  pub fields : (i : ℕ) → i < h.size → word_at new (address + header_words + i) ≡ f i
  pub words : (a : ℕ) → (a < address) ⊎ (address + header_words + h.size ≤ a) → word_at new a ≡ word_at old a

-- a field of the live header at an address is written: the header has the kind, the field's word is
-- the one that was written; no other header changes, and only that word and the kinds do
pub record Writes (old new : List Block) (address field kind w : ℕ) : Type 0 where
  pub blocks : IsSomeAnd (block_at old (key_at address)) (λ b. Puts (block_at old) (block_at new) (key_at address) (Some (with_field b (index_of address) field kind w)))
  pub mapped : (k : ℕ) → is_some (block_at new k) ≡ is_some (block_at old k)
  pub header : header_at new address ≡ option_map (λ (h : Header). record h { state = with_kind_at h.state field kind }) (header_at old address)
  pub headers : (a : ℕ) → a ≢ address → header_at new a ≡ header_at old a
  pub word : word_at new (address + header_words + field) ≡ w
  pub words : (a : ℕ) → a ≢ address + 3 → a ≢ address + header_words + field → word_at new a ≡ word_at old a

-- a segment is mapped no more, and its headers are gone; each other segment has the block that it had
pub record Drops (old new : List Block) (home number : ℕ) : Type 0 where
  pub blocks : Puts (block_at old) (block_at new) (segment_key home number) None
  pub headers : (a : ℕ) → header_at new a ≡ (if segment_key home number == key_at a then None else header_at old a)
  pub words : (a : ℕ) → key_at a ≢ segment_key home number → word_at new a ≡ word_at old a

-- a header of that name and size can begin at an address of a mapped segment
abbrev pub CanStandAt : List Block → ℕ → ℕ → ℕ → Type 0
CanStandAt blocks address name size = IsSomeAnd (block_at blocks (key_at address)) (λ b. CanStand b (index_of address) name size)

-- at that address a live header begins that has that field
abbrev pub HasFieldAt : List Block → ℕ → ℕ → Type 0
HasFieldAt blocks address field = IsSomeAnd (header_at blocks address) (λ h. IsLive h.state × (field < h.size))
