-- A replica: what a node has under each name.
use Rattle.std.specs.Prelude.{◌≡◌, ◌≢◌, ◌⊎◌, ℕ, ◌+◌, ◌*◌, ◌<◌, ◌≤◌, ◌==◌, ◌↔◌, true, false, if◌then◌else◌, List, [], ◌∷◌, Option, Some, None, IsSome, IsSomeAnd, MatchOption, is_some, unwrap_or, slice_get, slice_set, slice_index, map, replicate, ◌^◌, nat_lt}
use Rattle.std.specs.Bool.{MatchBool}
use Rattle.std.proofs.Common.{zero, suc}
use Rattle.std.specs.Option.{option_map, option_and_then}
use Rattle.std.specs.Int.{w64, cast_signed, cast_unsigned}
use Rattle.bmx_types.specs.Words.{IsAddress}
use Rattle.bmx_types.specs.declared.values.Val.{Val}
use Rattle.bmx_types.specs.declared.values.Val.TheVariants as val
use Rattle.bmx_types.specs.declared.addresses.Place.{Place}
use Rattle.bmx_types.specs.declared.addresses.Info.{Info}
use Rattle.bmx_types.specs.Updates.{Puts}
use Rattle.bmx_segment.specs.Headers.{header_words, kind_of, kind_number}
use Rattle.bmx_segment.specs.Blocks.{Block}
use Rattle.bmx_segment.specs.Stores.{block_at, header_at, word_at, Sets, Writes, Lays}
use Rattle.bmx_segment.specs.Heaps.{Heap, CanSet, PlacesIn, PlacesInNew, room_of, current_of}
use Rattle.bmx_segment.specs.declared.headers.Header.{Header}
use Rattle.bmx_segment.specs.declared.headers.Kind.TheVariants.{Null, Int, Ref}
use Rattle.bmx_segment.specs.declared.headers.State.TheVariants.{Live, Forwarded, Dead}
use Rattle.bmx_replica.specs.Slots.{slot_of, address_of}
use Rattle.bmx_replica.specs.Chains.{Ends, Means, Reaches, name_at, living_at, is_live}
use Rattle.bmx_replica.specs.Layouts.{kinds_in, moves_in, with_kinds, kinds_of, blank_header, Ground, ground_of, LiesOn, Moves, MapsThen}
use Rattle.bmx_replica.specs.declared.directory.Slot.{Slot}
use Rattle.bmx_replica.specs.declared.objects.Object.{Object}
use Rattle.bmx_replica.specs.declared.objects.Held.{Held}
use Rattle.bmx_replica.specs.declared.words.Word.{Word}

-- what contracts see of a replica: where each name's object lies, the heap of segments, and how many
-- more names can be learned without memory
pub record Holding : Type 0 where
  pub slots : List (ℕ × Slot)
  pub heap : Heap
  pub spare : ℕ

-- what a node has under a name
pub record Entry : Type 0 where
  pub bunch : ℕ
  pub size : ℕ
  pub place : Place
  pub copy : Option (List Val)

-- what a word of a kind holds: a number in two's complement, the name that an address means, or nothing
abbrev pub value_in : List Block → ℕ → ℕ → Val
value_in blocks kind w =
    if kind == 1 then val.Int (cast_signed w64 w)
    else (if kind == 2 then val.Ref (unwrap_or (name_at blocks w) 0) else val.Null)

-- the first so many values of a function
abbrev pub values_of : (ℕ → Val) → ℕ → List Val
values_of f zero = []
values_of f (suc n) = f 0 ∷ values_of (λ i. f (i + 1)) n

-- a field of the object of a header at an address
abbrev pub field_at : List Block → ℕ → Header → ℕ → Val
field_at blocks a h i = value_in blocks (kind_of (kinds_in h.state) i) (word_at blocks (a + header_words + i))

-- the entry of a name whose object lies where a header stands
abbrev pub entry_in : List Block → Slot → Header → Entry
entry_in blocks s h = record {
  bunch = h.bunch;
  size = h.size;
  place = record { address = s.address; moves = moves_in h.state };
  copy = if s.has_copy then Some (values_of (field_at blocks s.address h) h.size) else None;
}

-- the entry of a name, from the slots and the segments
abbrev pub entry_at : List (ℕ × Slot) → List Block → ℕ → Option Entry
entry_at slots blocks name = option_and_then (λ (s : Slot). option_map (entry_in blocks s) (header_at blocks s.address)) (slot_of slots name)

-- the entry of a name
abbrev pub entry_of : Holding → ℕ → Option Entry
entry_of r name = entry_at r.slots r.heap.blocks name

-- an entry without its copy
abbrev pub info_in : ℕ → Entry → Info
info_in name e = record { name = name; bunch = e.bunch; size = e.size; place = e.place }

-- a word of a kind is one of a field: a null word is 0, a reference is an address with a header
pub record IsField (blocks : List Block) (kind w : ℕ) : Type 0 where
  pub known : kind < 3
  pub null : kind ≡ 0 → w ≡ 0
  pub address : kind ≡ 2 → IsAddress w
  pub there : kind ≡ 2 → IsSome (header_at blocks w)

-- what a replica keeps. A name has an entry at an address exactly where its live header stands there. A
-- forwarded header leads to one of its name, and from each header the chain of forwarded ones ends. Each
-- field word is one of its kind, and there are kinds of the fields alone. Without a copy all are null.
pub record IsReplica (slots : List (ℕ × Slot)) (blocks : List Block) : Type 0 where
  pub entries : (name a : ℕ) → (address_of slots name ≡ Some a) ↔ (living_at blocks a ≡ Some name)
  pub forwards : (a c : ℕ) (h : Header) → header_at blocks a ≡ Some h → h.state ≡ Forwarded c → name_at blocks c ≡ Some h.name
  pub ends : (a : ℕ) (h : Header) → header_at blocks a ≡ Some h → ∥ Ends blocks a ∥₁
  pub fields : (a i : ℕ) (h : Header) → header_at blocks a ≡ Some h → is_live h.state ≡ true → i < h.size → IsField blocks (kind_of (kinds_in h.state) i) (word_at blocks (a + header_words + i))
  pub small : (a : ℕ) (h : Header) → header_at blocks a ≡ Some h → is_live h.state ≡ true → kinds_in h.state < 2 ^ (2 * h.size)
  pub blank : (name : ℕ) (s : Slot) (h : Header) → slot_of slots name ≡ Some s → s.has_copy ≡ false → header_at blocks s.address ≡ Some h → kinds_in h.state ≡ 0

-- every word that meant a name still means it
abbrev pub KeepsMeaning : Holding → Holding → Type 0
KeepsMeaning old new = (w name : ℕ) → Means old.heap.blocks w name → Means new.heap.blocks w name

-- every header keeps its name
abbrev pub KeepsNames : Holding → Holding → Type 0
KeepsNames old new = (w name : ℕ) → name_at old.heap.blocks w ≡ Some name → name_at new.heap.blocks w ≡ Some name

-- every word that reached a live header still does, that of the same name
abbrev pub KeepsReach : Holding → Holding → Type 0
KeepsReach old new = (w name : ℕ) → Reaches old.heap.blocks w name → Reaches new.heap.blocks w name

-- every word that reached the header of another name still does
abbrev pub KeepsReachOfOthers : Holding → Holding → ℕ → Type 0
KeepsReachOfOthers old new name = (w other : ℕ) → other ≢ name → Reaches old.heap.blocks w other → Reaches new.heap.blocks w other

-- what changes of objects keep: each header its name, each word its meaning, and what it reaches
pub record KeepsWords (old new : Holding) : Type 0 where
  pub names : KeepsNames old new
  pub meaning : KeepsMeaning old new
  pub reach : KeepsReach old new

-- the object of a name, by its address and its header
abbrev pub IsObject : Holding → ℕ → (ℕ → Header → Type 0) → Type 0
IsObject r name P = IsSomeAnd (address_of r.slots name) (λ a. IsSomeAnd (header_at r.heap.blocks a) (P a))

-- the same where the name has an entry, and another fact where it has none
abbrev pub IfObject : Holding → ℕ → Type 0 → (ℕ → Header → Type 0) → Type 0
IfObject r name none P = MatchOption (address_of r.slots name) none (λ a. IsSomeAnd (header_at r.heap.blocks a) (P a))

-- the values of a name's copy
abbrev pub copy_of : Holding → ℕ → Option (List Val)
copy_of r name = option_and_then (λ (e : Entry). e.copy) (entry_of r name)

-- the value in a field of a name's copy
abbrev pub field_of : Holding → ℕ → ℕ → Option Val
field_of r name i = option_and_then (λ fields. slice_get fields i) (copy_of r name)

-- the entry with another value in a field of its copy
abbrev pub with_value : ℕ → Val → Entry → Entry
with_value i v e = record e { copy = option_map (λ fields. slice_set fields i v) e.copy }

-- the entry without its copy
abbrev pub without_copy : Entry → Entry
without_copy e = record e { copy = None }

-- the entry with a copy of those values
abbrev pub with_copy : List Val → Entry → Entry
with_copy fields e = record e { copy = Some fields }

-- a value that refers to a name refers to one with an entry
abbrev pub HasTarget : Holding → Val → Type 0
HasTarget r val.Null = Unit {0}
HasTarget r (val.Int k) = Unit {0}
HasTarget r (val.Ref name) = IsSome (entry_of r name)

-- the word of a value: 0, a number in two's complement, or the current address of a name
abbrev pub word_in : Holding → Val → Word
word_in r val.Null = record { kind = Null; word = 0 }
word_in r (val.Int k) = record { kind = Int; word = cast_unsigned w64 k }
word_in r (val.Ref name) = record { kind = Ref; word = unwrap_or (address_of r.slots name) 0 }

-- the name that a value refers to
abbrev pub target_in : Val → Option ℕ
target_in val.Null = None
target_in (val.Int k) = None
target_in (val.Ref name) = Some name

-- the word of a reference reaches its name
abbrev pub ReachesTarget : Holding → Val → Word → Type 0
ReachesTarget r val.Null w = Unit {0}
ReachesTarget r (val.Int k) w = Unit {0}
ReachesTarget r (val.Ref name) w = Reaches r.heap.blocks w.word name

-- the entry at another place
abbrev pub at_place : Place → Entry → Entry
at_place p e = record e { place = p }

-- an object whose fields are null, with a copy
abbrev pub blank_entry : ℕ → ℕ → ℕ → Entry
blank_entry bunch size a = record { bunch = bunch; size = size; place = record { address = a; moves = 0 }; copy = Some (replicate size val.Null) }

-- words for an object of the bunch are handed out at an address
pub record HandsOut (old new : Heap) (bunch size at : ℕ) : Type 0 where
  pub roomy : header_words + size ≤ room_of old bunch → IsSomeAnd (current_of old bunch) (λ n. PlacesIn old new n size at)
  pub fresh : room_of old bunch < header_words + size → PlacesInNew old new bunch size at

-- an object can move to an address: the words there were handed out for one of its size, and no header
-- stands in them
pub record CanMove (h : Heap) (to : ℕ) (e : Entry) : Type 0 where
  pub free : (name : ℕ) → CanSet h to name e.size
  pub few : e.place.moves < 2 ^ 63

-- the entry of a name after its Info is learned: a new one has no copy, of a larger moves the place is
-- taken
abbrev pub learned : Info → Option Entry → Entry
learned i None = record { bunch = i.bunch; size = i.size; place = i.place; copy = None }
learned i (Some e) = if nat_lt e.place.moves i.place.moves then at_place i.place e else e

-- an object stands where it says: its live header, of at most 32 fields, is there
pub record StandsAt (r : Holding) (o : Object) : Type 0 where
  pub few : o.header.size ≤ 32
  pub there : header_at r.heap.blocks o.address ≡ Some o.header
  pub live : is_live o.header.state ≡ true

-- a word is that of a value, and holds it
pub record IsHolding (r : Holding) (h : Held) : Type 0 where
  pub word : h.word ≡ word_in r h.value
  pub field : IsField r.heap.blocks (kind_number h.word.kind) h.word.word
  pub holds : value_in r.heap.blocks (kind_number h.word.kind) h.word.word ≡ h.value
  pub reach : ReachesTarget r h.value h.word

-- an Info can be learned beside an entry: of its bunch and size, and where its moves are larger, at
-- another address where the object can lie
abbrev pub AcceptsOn : Ground → Info → Option Entry → Type 0
AcceptsOn g i None = LiesOn g i.place.address i.name i.size
AcceptsOn g i (Some e) = (e.bunch ≡ i.bunch) × (e.size ≡ i.size) × (e.place.moves < i.place.moves → (e.place.address ≢ i.place.address) × LiesOn g i.place.address i.name i.size)

-- it can in a heap
abbrev pub Accepts : Heap → Info → Option Entry → Type 0
Accepts h i o = AcceptsOn (ground_of h) i o

-- nothing changed but room
pub record Same (old new : Holding) : Type 0 where
  pub slots : new.slots ≡ old.slots
  pub heap : new.heap ≡ old.heap
  pub spare : old.spare ≤ new.spare

-- the word of a field is that of its value: of a reference the current address
abbrev pub IsCurrent : Holding → ℕ → ℕ → Type 0
IsCurrent r name i = (v : Val) (a : ℕ) → field_of r name i ≡ Some v → address_of r.slots name ≡ Some a → word_at r.heap.blocks (a + header_words + i) ≡ (word_in r v).word

-- each reference in a copy is to a name with an entry
abbrev pub HasTargets : Holding → Type 0
HasTargets r = (name i : ℕ) (v : Val) → field_of r name i ≡ Some v → HasTarget r v

-- ---- what each call does

-- a value is written to a field of a name's copy: its object has the value's word there, and its kind
pub record WritesField (old new : Holding) (name i : ℕ) (v : Val) : Type 0 where
  pub entry : Puts (entry_of old) (entry_of new) name (option_map (with_value i v) (entry_of old name))
  pub written : IsSomeAnd (address_of old.slots name) (λ a. Writes old.heap.blocks new.heap.blocks a i (kind_number (word_in old v).kind) (word_in old v).word)
  pub rest : new ≡ record old { heap = record old.heap { blocks = new.heap.blocks } }
  pub keeps : KeepsWords old new

-- a name has no copy from now on: the kinds and the words of its object's fields are 0; without an entry
-- nothing changes
pub record ClearsCopy (old new : Holding) (name : ℕ) : Type 0 where
  pub entry : Puts (entry_of old) (entry_of new) name (option_map without_copy (entry_of old name))
  pub cleared : IfObject old name (new ≡ old) (λ a h. Lays old.heap.blocks new.heap.blocks a (with_kinds h 0) (λ _. 0))
  pub heap : new.heap ≡ record old.heap { blocks = new.heap.blocks }
  pub spare : new.spare ≡ old.spare
  pub keeps : KeepsWords old new

-- a name has a copy with those values from now on: its object has their words and their kinds
pub record Installs (old new : Holding) (name : ℕ) (fields : List Val) : Type 0 where
  pub entry : Puts (entry_of old) (entry_of new) name (option_map (with_copy fields) (entry_of old name))
  pub laid : IsObject old name (λ a h. Lays old.heap.blocks new.heap.blocks a (with_kinds h (kinds_of (map (word_in old) fields))) (λ i. slice_index (map (λ v. (word_in old v).word) fields) i))
  pub heap : new.heap ≡ record old.heap { blocks = new.heap.blocks }
  pub spare : new.spare ≡ old.spare
  pub keeps : KeepsWords old new

-- an object of the bunch is made under the name, in words that are handed out
pub record MakesObject (old new : Holding) (name bunch size : ℕ) : Type 0 where
  pub at : ℕ
  pub mid : Heap
  pub placed : HandsOut old.heap mid bunch size at
  pub laid : Lays mid.blocks new.heap.blocks at (record { bunch = bunch; size = size; name = name; state = Live 0 0 }) (λ _. 0)
  pub heap : new.heap ≡ record mid { blocks = new.heap.blocks }
  pub entry : Puts (entry_of old) (entry_of new) name (Some (blank_entry bunch size at))
  pub spare : old.spare ≤ new.spare + 1
  pub keeps : KeepsWords old new

-- what an Info changes beside an entry: a new object is laid, an older place's object moves, each in a
-- segment that is mapped; or nothing
abbrev pub TakesPlace : Holding → Holding → Info → Option Entry → Type 0
TakesPlace old new i None = MapsThen old.heap new.heap i.place.address (λ before after. Lays before after i.place.address (blank_header i) (λ _. 0))
TakesPlace old new i (Some e) =
    MatchBool (nat_lt e.place.moves i.place.moves)
    (IsObject old i.name (λ a h. MapsThen old.heap new.heap i.place.address (λ before after. Moves before after a i.place h)))
    (new ≡ old)

-- an Info is learned
pub record Learns (old new : Holding) (i : Info) : Type 0 where
  pub accepted : Accepts old.heap i (entry_of old i.name)
  pub entry : Puts (entry_of old) (entry_of new) i.name (Some (learned i (entry_of old i.name)))
  pub places : TakesPlace old new i (entry_of old i.name)
  pub spare : old.spare ≤ new.spare + 1
  pub keeps : KeepsWords old new

-- the object of a name moves, with its copy
pub record MovesObject (old new : Holding) (name to : ℕ) : Type 0 where
  pub entry : IsSomeAnd (entry_of old name) (λ e. Puts (entry_of old) (entry_of new) name (Some (at_place (record { address = to; moves = e.place.moves + 1 }) e)))
  pub moved : IsObject old name (λ a h. Moves old.heap.blocks new.heap.blocks a (record { address = to; moves = moves_in h.state + 1 }) h)
  pub heap : new.heap ≡ record old.heap { blocks = new.heap.blocks }
  pub spare : new.spare ≡ old.spare
  pub keeps : KeepsWords old new

-- the entry of a name is gone, and its object's header dead; without an entry nothing changes. Words reach
-- what they reached but for that object, and still mean its name
pub record Forgets (old new : Holding) (name : ℕ) : Type 0 where
  pub entry : Puts (entry_of old) (entry_of new) name None
  pub dead : IfObject old name (new ≡ old) (λ a h. Sets old.heap.blocks new.heap.blocks a (record h { state = Dead }))
  pub heap : new.heap ≡ record old.heap { blocks = new.heap.blocks }
  pub spare : old.spare ≤ new.spare
  pub names : KeepsNames old new
  pub meaning : KeepsMeaning old new
  pub reach : KeepsReachOfOthers old new name

-- field words become current; each header stays, and each word of no header and no field
pub record Repoints (old new : Holding) : Type 0 where
  pub entries : (q : ℕ) → entry_of new q ≡ entry_of old q
  pub mapped : (k : ℕ) → is_some (block_at new.heap.blocks k) ≡ is_some (block_at old.heap.blocks k)
  pub headers : (a : ℕ) → header_at new.heap.blocks a ≡ header_at old.heap.blocks a
  pub words : (x : ℕ) → ((a : ℕ) (h : Header) → header_at old.heap.blocks a ≡ Some h → (x < a) ⊎ (a + header_words ≤ x)) → ((q j a : ℕ) → address_of old.slots q ≡ Some a → IsSome (field_of old q j) → x ≢ a + header_words + j) → word_at new.heap.blocks x ≡ word_at old.heap.blocks x
  pub rest : new ≡ record old { heap = record old.heap { blocks = new.heap.blocks } }
  pub current : (q j : ℕ) → IsCurrent old q j → IsCurrent new q j
  pub keeps : KeepsWords old new
