-- What the four words of a header mean.
use Rattle.std.specs.Prelude.{◌≡◌, ℕ, ◌+◌, ◌*◌, ◌/◌, ◌%◌, ◌^◌, ◌<◌, ◌≤◌, if◌then◌else◌, ◌==◌, refl}
use Rattle.bmx_types.specs.Words.{IsName, IsAddress}
use Rattle.bmx_segment.specs.declared.headers.Header.{Header}
use Rattle.bmx_segment.specs.declared.headers.State.{State}
use Rattle.bmx_segment.specs.declared.headers.State.TheVariants.{Live, Forwarded, Dead}
use Rattle.bmx_segment.specs.declared.headers.Kind.{Kind}
use Rattle.bmx_segment.specs.declared.headers.Kind.TheVariants.{Null, Int, Ref, Far}

-- ---- from a header to its words

-- a state's number in a mark
abbrev pub state_number : State → ℕ
state_number (Live moves kinds) = 1
state_number (Forwarded to) = 2
state_number Dead = 3

-- the first word: 0xb3a0 in the top 16 bits, the state in bits 16 to 23, the size in bits 8 to 15,
-- the bunch in bits 0 to 7
abbrev pub mark_of : Header → ℕ
mark_of h = 0xb3a0 * 2 ^ 48 + state_number h.state * 2 ^ 16 + h.size * 2 ^ 8 + h.bunch

-- the third word: how often the object moved, or its new address; of a dead header what it held
abbrev pub third_of : State → ℕ → ℕ
third_of (Live moves kinds) held = moves
third_of (Forwarded to) held = to
third_of Dead held = held

-- the fourth word: the kinds of the fields; where the state doesn't tell them, what it held
abbrev pub fourth_of : State → ℕ → ℕ
fourth_of (Live moves kinds) held = kinds
fourth_of (Forwarded to) held = held
fourth_of Dead held = held

-- ---- from words to their header

-- the state's number in a mark
abbrev pub state_in : ℕ → ℕ
state_in mark = mark / 2 ^ 16 % 2 ^ 8

-- the size in a mark
abbrev pub size_in : ℕ → ℕ
size_in mark = mark / 2 ^ 8 % 2 ^ 8

-- the bunch in a mark
abbrev pub bunch_in : ℕ → ℕ
bunch_in mark = mark % 2 ^ 8

-- the state of that number, with the third and the fourth word
abbrev pub state_of : ℕ → ℕ → ℕ → State
state_of number third fourth = if number == 1 then Live third fourth else (if number == 2 then Forwarded third else Dead)

-- the moves among the words of a header, which a forwarded one has not: it counts as unmoved
abbrev pub held_moves : ℕ → ℕ → ℕ
held_moves mark third = if state_in mark == 2 then 0 else third

-- the header of four words
abbrev pub header_of : ℕ → ℕ → ℕ → ℕ → Header
header_of mark name third fourth =
    record { bunch = bunch_in mark; size = size_in mark; name = name; state = state_of (state_in mark) third fourth }

-- four words are those of some header
pub record IsHeaderWords (mark name third fourth : ℕ) : Type 0 where
  pub marked : mark ≡ 0xb3a0 * 2 ^ 48 + state_in mark * 2 ^ 16 + size_in mark * 2 ^ 8 + bunch_in mark
  pub a_state : 0 < state_in mark
  pub no_more_states : state_in mark < 4
  pub few_fields : size_in mark ≤ 32
  pub a_bunch : bunch_in mark < 16
  pub named : IsName name
  pub leads : state_in mark ≡ 2 → IsAddress third

-- a header that has words
pub record IsHeader (h : Header) : Type 0 where
  pub few : h.size ≤ 32
  pub a_bunch : h.bunch < 16
  pub named : IsName h.name
  pub leads : state_number h.state ≡ 2 → IsAddress (third_of h.state 0)

-- how many words stand in front of an object's fields
abbrev pub header_words : ℕ
header_words = 4

-- ---- the kinds of fields

-- the two bits of a kind
abbrev pub kind_number : Kind → ℕ
kind_number Null = 0
kind_number Int = 1
kind_number Ref = 2
kind_number Far = 3

-- the two bits of field i
abbrev pub kind_of : ℕ → ℕ → ℕ
kind_of kinds i = kinds / 2 ^ (2 * i) % 4

-- the bits with those two replaced
abbrev pub with_kind : ℕ → ℕ → ℕ → ℕ
with_kind kinds i number = (kinds / 2 ^ (2 * i) / 4 * 4 + number) * 2 ^ (2 * i) + kinds % 2 ^ (2 * i)

-- ---- live headers

-- the object stands here
abbrev pub IsLive : State → Type 0
IsLive (Live moves kinds) = Unit {0}
IsLive (Forwarded to) = ⊥
IsLive Dead = ⊥

-- 1 for a live header, else 0
abbrev pub live_number : State → ℕ
live_number (Live moves kinds) = 1
live_number (Forwarded to) = 0
live_number Dead = 0

-- the state with the two bits of field i replaced
abbrev pub with_kind_at : State → ℕ → ℕ → State
with_kind_at (Live moves kinds) i number = Live moves (with_kind kinds i number)
with_kind_at (Forwarded to) i number = Forwarded to
with_kind_at Dead i number = Dead

-- ---- an example: an object of one field, a number, that hasn't moved

example : Header
example = record { bunch = 0; size = 1; name = 2; state = Live 0 1 }

mark_of_example : mark_of example ≡ 0xb3a0000000010100
unfolding example
mark_of_example = refl

header_of_example : header_of 0xb3a0000000010100 2 0 1 ≡ example
unfolding example
header_of_example = refl
