-- What each segment keeps.
use Rattle.std.specs.Prelude.{◌≡◌, ℕ, ◌+◌, ◌^◌, ◌<◌, ◌≤◌, ◌++◌, true, List, length, slice_index, take, drop}
use Rattle.bmx_segment.specs.Headers.{header_words, size_in, IsHeaderWords}
use Rattle.bmx_segment.specs.Blocks.{Block, segment_words, is_start, live_in}

-- a block is a home's and has all words; each header in it is one, stays within it, and shares no word with
-- another, its fields counted as its own
pub record IsBlock (b : Block) : Type 0 where
  pub a_home : b.home < 8
  pub a_number : 0 < b.number
  pub few_numbers : b.number < 2 ^ 16
  pub all_words : length b.words ≡ segment_words
  pub all_starts : length b.starts ≡ 16
  pub headers : (i : ℕ) → is_start b.starts i ≡ true → IsHeaderWords (slice_index b.words i) (slice_index b.words (i + 1)) (slice_index b.words (i + 2)) (slice_index b.words (i + 3))
  pub inside : (i : ℕ) → is_start b.starts i ≡ true → i + header_words + size_in (slice_index b.words i) ≤ segment_words
  pub apart : (i j : ℕ) → is_start b.starts i ≡ true → is_start b.starts j ≡ true → i < j → i + header_words + size_in (slice_index b.words i) ≤ j

-- and a segment counts the live ones
pub record IsSegment (b : Block) (live : ℕ) : Type 0 where
  pub block : IsBlock b
  pub counted : live ≡ live_in b

-- the block with those words, so many, behind the header at a word
abbrev pub with_words : Block → ℕ → ℕ → List ℕ → Block
with_words b i n ws = record b { words = take (i + header_words) b.words ++ take n ws ++ drop (i + header_words + n) b.words }
