-- An object in a segment: its kinds and its field words.
use Rattle.std.specs.Prelude.{◌≡◌, ◌≢◌, ◌⊎◌, ℕ, ◌+◌, ◌-◌, ◌*◌, ◌<◌, ◌≤◌, List, [], ◌∷◌, Option, Some, is_some, if◌then◌else◌}
use Rattle.bmx_types.specs.Words.{home_of, segment_of, index_of}
use Rattle.bmx_types.specs.declared.addresses.Info.{Info}
use Rattle.bmx_types.specs.declared.addresses.Place.{Place}
use Rattle.bmx_segment.specs.Headers.{header_words, kind_number}
use Rattle.bmx_segment.specs.Blocks.{Block, segment_words}
use Rattle.bmx_segment.specs.Stores.{header_at, word_at, block_at, key_at, Maps, Sets, Lays}
use Rattle.bmx_segment.specs.Heaps.{Heap, handed_of}
use Rattle.bmx_segment.specs.declared.headers.Header.{Header}
use Rattle.bmx_segment.specs.declared.headers.State.{State}
use Rattle.bmx_segment.specs.declared.headers.State.TheVariants.{Live, Forwarded, Dead}
use Rattle.bmx_replica.specs.declared.words.Word.{Word}

-- the kind bits of a live header
abbrev pub kinds_in : State → ℕ
kinds_in (Live moves kinds) = kinds
kinds_in (Forwarded to) = 0
kinds_in Dead = 0

-- how often the object of a live header has moved
abbrev pub moves_in : State → ℕ
moves_in (Live moves kinds) = moves
moves_in (Forwarded to) = 0
moves_in Dead = 0

-- a live header with other kind bits
abbrev pub with_kinds : Header → ℕ → Header
with_kinds h kinds = record h { state = Live (moves_in h.state) kinds }

-- the header of an object that is new here, with null fields
abbrev pub blank_header : Info → Header
blank_header i = record { bunch = i.bunch; size = i.size; name = i.name; state = Live i.place.moves 0 }

-- the kind bits of fields with those words
abbrev pub kinds_of : List Word → ℕ
kinds_of [] = 0
kinds_of (w ∷ ws) = kind_number w.kind + 4 * kinds_of ws

-- an object moves from an address to a place: its header stands there, with its kinds and its field words,
-- and its old header is forwarded to it
pub record Moves (old new : List Block) (a : ℕ) (to : Place) (h : Header) : Type 0 where
  pub mid : List Block
  pub lays : Lays old mid to.address (record h { state = Live to.moves (kinds_in h.state) }) (λ i. word_at old (a + header_words + i))
  pub forwards : Sets mid new a (record h { state = Forwarded to.address })

-- what decides where objects can lie: whose heap it is, how many words of each own segment were handed
-- out, and the header that begins at each address
pub record Ground : Type 0 where
  pub me : ℕ
  pub given_out : ℕ → ℕ
  pub header : ℕ → Option Header

-- that of a heap
abbrev pub ground_of : Heap → Ground
ground_of h = record { me = h.me; given_out = handed_of h; header = header_at h.blocks }

-- an object of that name and size can lie at an address once its segment is mapped: it stays within the
-- segment, shares no word with a header that begins elsewhere in it, what begins there already has that
-- name and size, and in an own segment its words were handed out
pub record LiesOn (g : Ground) (a name size : ℕ) : Type 0 where
  pub inside : index_of a + header_words + size ≤ segment_words
  pub alone : (x : ℕ) (o : Header) → key_at x ≡ key_at a → index_of x < segment_words → g.header x ≡ Some o → x ≢ a → (x + header_words + o.size ≤ a) ⊎ (a + header_words + size ≤ x)
  pub same : (o : Header) → g.header a ≡ Some o → (o.name ≡ name) × (o.size ≡ size)
  pub handed : home_of a ≡ g.me → index_of a + header_words + size ≤ g.given_out (segment_of a)

-- it can in a heap
abbrev pub CanLie : Heap → ℕ → ℕ → ℕ → Type 0
CanLie h a name size = LiesOn (ground_of h) a name size

-- the segment of an address is mapped from now on, if it wasn't, with all words 0
pub record MapsFor (old new : Heap) (a : ℕ) : Type 0 where
  pub mapped : Maps old.blocks new.blocks (home_of a) (segment_of a) 1
  pub spare : new.spare ≡ old.spare - (if is_some (block_at old.blocks (key_at a)) then 0 else 1)
  pub rest : new ≡ record old { blocks = new.blocks; spare = new.spare }

-- the segment of an address is mapped, and then the blocks change so
pub record MapsThen (old new : Heap) (a : ℕ) (change : List Block → List Block → Type 0) : Type 0 where
  pub mid : Heap
  pub maps : MapsFor old mid a
  pub changes : change mid.blocks new.blocks
  pub rest : new ≡ record mid { blocks = new.blocks }
