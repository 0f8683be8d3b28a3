-- A segment's block of words, and the headers that stand in it.
use Rattle.std.specs.Prelude.{◌≡◌, ◌≢◌, ℕ, ◌+◌, ◌*◌, ◌/◌, ◌%◌, ◌^◌, ◌<◌, ◌≤◌, ◌⊎◌, Bool, if◌then◌else◌, ◌==◌, List, length, slice_index, slice_set, replicate, bit_or, Option, Some, None, IsSomeAnd}
use Rattle.std.specs.Int.{bit_at}
use Rattle.std.proofs.Common.{zero, suc}
use Rattle.bmx_segment.specs.Headers.{header_words, mark_of, third_of, fourth_of, header_of, held_moves, IsLive, live_number, with_kind}
use Rattle.bmx_segment.specs.declared.headers.Header.{Header}

-- how many words a segment has
abbrev pub segment_words : ℕ
segment_words = 1024

-- a mapped segment: whose it is, its number there, its words, and a bit for each word, 64 to a
-- number: whether a header begins there
pub record Block : Type 0 where
  pub home : ℕ
  pub number : ℕ
  pub words : List ℕ
  pub starts : List ℕ

-- whether a header begins at a word
abbrev pub is_start : List ℕ → ℕ → Bool
is_start starts i = bit_at (slice_index starts (i / 64)) (i % 64) == 1

-- the header that begins at a word
abbrev pub header_in : Block → ℕ → Option Header
header_in b i =
    if is_start b.starts i
    then Some (header_of (slice_index b.words i) (slice_index b.words (i + 1)) (slice_index b.words (i + 2)) (slice_index b.words (i + 3)))
    else None

-- a header of that name and size can begin at a word: it stays within the block, shares no word with
-- a header that begins elsewhere, and what begins there already has that name and size
pub record CanStand (b : Block) (i name size : ℕ) : Type 0 where
  pub inside : i + header_words + size ≤ segment_words
  pub alone : (j : ℕ) (other : Header) → j < segment_words → header_in b j ≡ Some other → j ≢ i → (j + header_words + other.size ≤ i) ⊎ (i + header_words + size ≤ j)
  pub same : (other : Header) → header_in b i ≡ Some other → (other.name ≡ name) × (other.size ≡ size)

-- the words with a header at a word: a dead one keeps the moves, and one that isn't live the kinds
abbrev pub words_with : List ℕ → ℕ → Header → List ℕ
words_with words i h =
    slice_set
    (slice_set (slice_set (slice_set words i (mark_of h)) (i + 1) h.name) (i + 2) (third_of h.state (held_moves (slice_index words i) (slice_index words (i + 2)))))
    (i + 3) (fourth_of h.state (slice_index words (i + 3)))

-- the bits with a header at a word
abbrev pub starts_with : List ℕ → ℕ → List ℕ
starts_with starts i = slice_set starts (i / 64) (bit_or (slice_index starts (i / 64)) (1 * 2 ^ (i % 64) % 2 ^ 64))

-- the block with a header at a word
abbrev pub with_header : Block → ℕ → Header → Block
with_header b i h = record b { words = words_with b.words i h; starts = starts_with b.starts i }

-- at that word a live header begins that has that field
abbrev pub HasField : Block → ℕ → ℕ → Type 0
HasField b i field = IsSomeAnd (header_in b i) (λ h. IsLive h.state × (field < h.size))

-- the block with a kind and a word for a field of the header at a word
abbrev pub with_field : Block → ℕ → ℕ → ℕ → ℕ → Block
with_field b i field kind w =
    record b { words = slice_set (slice_set b.words (i + 3) (with_kind (slice_index b.words (i + 3)) field kind)) (i + header_words + field) w }

-- 1 where a live header begins, else 0
abbrev pub live_at : Option Header → ℕ
live_at None = 0
live_at (Some h) = live_number h.state

-- how many live headers begin below a word
abbrev pub live_below : Block → ℕ → ℕ
live_below b zero = 0
live_below b (suc i) = live_below b i + live_at (header_in b i)

-- how many live headers a block has
abbrev pub live_in : Block → ℕ
live_in b = live_below b (length b.words)

-- words that are 0
unfoldable pub blank_words : List ℕ
blank_words = replicate segment_words 0

-- no header begins
abbrev pub blank_starts : List ℕ
blank_starts = replicate 16 0

-- a segment as it is mapped: all words 0, no header
abbrev pub blank_block : ℕ → ℕ → Block
blank_block home number = record { home = home; number = number; words = blank_words; starts = blank_starts }
