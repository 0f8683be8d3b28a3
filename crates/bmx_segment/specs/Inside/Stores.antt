-- How mapped segments are kept: in a list, found by a table.
use Rattle.std.specs.Prelude.{◌≡◌, ℕ, ◌+◌, ◌*◌, ◌^◌, ◌<◌, ◌≤◌, ◌⊎◌, List, length, slice_index, slice_index_or, Some, is_some, IsSomeAnd}
use Rattle.bmx_types.specs.Words.{index_of}
use Rattle.bmx_types.specs.Updates.{Puts}
use Rattle.bmx_segment.specs.Headers.{header_words}
use Rattle.bmx_segment.specs.Blocks.{Block, blank_words, blank_starts}
use Rattle.bmx_segment.specs.Stores.{block_at, header_at, word_at, key_at, key_of}
use Rattle.bmx_segment.specs.Inside.Blocks.{IsBlock, with_words}

-- the mapped segments, and how many more can be mapped without memory
pub record Mapped : Type 0 where
  pub blocks : List Block
  pub spare : ℕ

-- where the table has the segment of a home and a number: by number, and then by home
abbrev pub rank_of : ℕ → ℕ → ℕ
rank_of home number = number * 8 + home

-- how many there are
abbrev pub all_ranks : ℕ
all_ranks = 2 ^ 16 * 8

-- where it has that of a block
abbrev pub rank_in : Block → ℕ
rank_in b = rank_of b.home b.number

-- each block is one
abbrev pub AreBlocks : List Block → Type 0
AreBlocks bs = (i : ℕ) (d : Block) → i < length bs → IsBlock (slice_index_or bs i d)

-- all words are 0 and no header begins
abbrev pub IsBlank : Block → Type 0
IsBlank b = (b.words ≡ blank_words) × (b.starts ≡ blank_starts)

-- no two blocks are of one segment
abbrev pub AreDistinct : List Block → Type 0
AreDistinct bs = (i j : ℕ) (d : Block) → i < length bs → j < length bs → key_of (slice_index_or bs i d) ≡ key_of (slice_index_or bs j d) → i ≡ j

-- the table has 1 more than the place of each segment, and 0 where none is mapped
pub record IsListed (segments : List Block) (table : List ℕ) : Type 0 where
  pub listed : (i : ℕ) (d : Block) → i < length segments → slice_index table (rank_in (slice_index_or segments i d)) ≡ i + 1
  pub placed : (rank i : ℕ) (d : Block) → slice_index table rank ≡ i + 1 → (i < length segments) × (rank_in (slice_index_or segments i d) ≡ rank)

-- what the store of segments keeps: blocks, a table of them, blank blocks in stock, room for each of
-- these, and where there are some, room for the whole table
pub record IsStored (segments pool : List Block) (table : List ℕ) (room ranks : ℕ) : Type 0 where
  pub blocks : AreBlocks segments
  pub lists : IsListed segments table
  pub blank : (i : ℕ) (d : Block) → i < length pool → IsBlank (slice_index_or pool i d)
  pub enough : length segments + length pool ≤ room
  pub whole : 0 < length pool → all_ranks ≤ ranks

-- the words behind the header at an address are those, so many, from now on; no header changes, and no
-- other word
pub record Fills (old new : List Block) (address n : ℕ) (ws : List ℕ) : Type 0 where
  pub blocks : IsSomeAnd (block_at old (key_at address)) (λ b. Puts (block_at old) (block_at new) (key_at address) (Some (with_words b (index_of address) n ws)))
  pub mapped : (k : ℕ) → is_some (block_at new k) ≡ is_some (block_at old k)
  pub headers : (a : ℕ) → header_at new a ≡ header_at old a
  pub fields : (i : ℕ) → i < n → word_at new (address + header_words + i) ≡ slice_index ws i
  pub words : (a : ℕ) → (a < address + header_words) ⊎ (address + header_words + n ≤ a) → word_at new a ≡ word_at old a
