-- What the words of a memory mean.
use Rattle.std.specs.Prelude.{◌≡◌, ℕ, ◌+◌, true, slice_get, Some, IsSomeAnd}
use Rattle.std.specs.Int.{w64, cast_signed}
use Rattle.bmx_types.specs.declared.values.Val.{Val}
use Rattle.bmx_types.specs.declared.values.Val.TheVariants as val
use Rattle.bmx_segment.specs.Headers.{header_words}
use Rattle.bmx_segment.specs.Stores.{header_at, word_at, AreApart}
use Rattle.bmx_segment.specs.declared.headers.Header.{Header}
use Rattle.bmx_segment.specs.declared.headers.Kind.TheVariants.{Null, Int, Ref}
use Rattle.bmx_replica.specs.declared.words.Word.{Word}
use Rattle.bmx_replica.specs.Chains.{Reaches, is_live, living_at}
use Rattle.bmx_replica.specs.Layouts.{moves_in}
use Rattle.bmx_replica.specs.Replicas.{Holding, Entry, entry_of, field_of}
use Rattle.bmx_memory.specs.Contents.{Contents, value_at}

-- a word is that of a value: 0, a number in two's complement, or an address from which following forwarded
-- headers ends at the live header of the name
abbrev pub IsWordOf : Holding → Word → Val → Type 0
IsWordOf r w val.Null = (w.kind ≡ Null) × (w.word ≡ 0)
IsWordOf r w (val.Int k) = (w.kind ≡ Int) × (cast_signed w64 w.word ≡ k)
IsWordOf r w (val.Ref name) = (w.kind ≡ Ref) × Reaches r.heap.blocks w.word name

-- the header of an entry's object: live, with its bunch, its size and its moves
pub record StandsFor (name : ℕ) (e : Entry) (h : Header) : Type 0 where
  pub named : h.name ≡ name
  pub live : is_live h.state ≡ true
  pub bunch : h.bunch ≡ e.bunch
  pub size : h.size ≡ e.size
  pub moves : moves_in h.state ≡ e.place.moves

-- what the words of a memory mean. An entry's object stands where it says, each live header is that of an
-- entry, and headers with their fields share no word. A word of a register or of a copy that holds a
-- reference ends at the live header of its name.
pub record MeansWhole (m : Contents) : Type 0 where
  pub entries : (name : ℕ) (e : Entry) → entry_of m.replica name ≡ Some e → IsSomeAnd (header_at m.replica.heap.blocks e.place.address) (StandsFor name e)
  pub headers : (a name : ℕ) → living_at m.replica.heap.blocks a ≡ Some name → IsSomeAnd (entry_of m.replica name) (λ e. e.place.address ≡ a)
  pub apart : AreApart m.replica.heap.blocks
  pub registers : (r : ℕ) (w : Word) → slice_get m.registers r ≡ Some w → IsWordOf m.replica w (value_at m.replica w)
  pub fields : (name i target : ℕ) (e : Entry) → entry_of m.replica name ≡ Some e → field_of m.replica name i ≡ Some (val.Ref target) → Reaches m.replica.heap.blocks (word_at m.replica.heap.blocks (e.place.address + header_words + i)) target
