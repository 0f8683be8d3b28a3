-- The ledger of a store: the blocks of words that its nodes have handed out to objects, and what belongs to them.
use Rattle.std.specs.Prelude.{◌≡◌, ◌≢◌, ℕ, ◌+◌, ◌<◌, ◌≤◌, false, Contains, Option, Some}
use Rattle.bmx_types.specs.Words.{home_of, segment_of, index_of}
use Rattle.bmx_types.specs.Openings.{bunches_of}
use Rattle.bmx_types.specs.declared.addresses.Place.{Place}
use Rattle.bmx_types.specs.declared.addresses.Info.{Info}
use Rattle.bmx_msg.specs.declared.letters.Letter.{Letter}
use Rattle.bmx_owner.specs.declared.entering.Record.{Record}
use Rattle.bmx_protocol.specs.Nodes.{Setting, Known}
use Rattle.bmx_protocol.specs.Places.{Header, overlaps}
use Rattle.bmx_protocol.specs.Rules.{infos}
use Rattle.bmx_protocol.specs.Worlds.{World}
use Rattle.bmx_store_laws.specs.Laws.{IsCounted}

-- a block of words: the object that it was handed out to, with its bunch and size, and how often the object had moved
pub record Block : Type 0 where
  pub name : ℕ
  pub bunch : ℕ
  pub size : ℕ
  pub moves : ℕ

-- a block at an address lies in a segment of a node of the store, in words that the node has handed out, and its
-- object is one of the store
pub record IsBlock (st : Setting) (w : World) (address : ℕ) (b : Block) : Type 0 where
  pub home : home_of address < st.nodes
  pub handed : index_of address + (4 + b.size) ≤ (w.places (home_of address)).handed (segment_of address)
  pub inside : index_of address + (4 + b.size) ≤ 1024
  pub counted : IsCounted st w b.name
  pub bunch : b.bunch < bunches_of st.births
  pub size : b.size ≤ 32

-- blocks at addresses: those of one segment share no word, a name with its number of moves has one address, and a
-- name has one bunch and size
pub record AreBlocks (st : Setting) (w : World) (blocks : ℕ → Option Block) : Type 0 where
  pub each : (a : ℕ) (b : Block) → blocks a ≡ Some b → IsBlock st w a b
  pub apart : (a c : ℕ) (b d : Block) → blocks a ≡ Some b → blocks c ≡ Some d → home_of a ≡ home_of c → segment_of a ≡ segment_of c →
      a ≢ c → overlaps (index_of a) (4 + b.size) (index_of c) (4 + d.size) ≡ false
  pub one_address : (a c : ℕ) (b d : Block) → blocks a ≡ Some b → blocks c ≡ Some d → b.name ≡ d.name → b.moves ≡ d.moves → a ≡ c
  pub one_shape : (a c : ℕ) (b d : Block) → blocks a ≡ Some b → blocks c ≡ Some d → b.name ≡ d.name → (b.bunch ≡ d.bunch) × (b.size ≡ d.size)

-- the block of an object that lies at a place
abbrev pub block_at : ℕ → Known → Place → Block
block_at name k place = record { name = name; bunch = k.bunch; size = k.size; moves = place.moves }

-- the block of what an Info tells
abbrev pub block_of : Info → Block
block_of info = record { name = info.name; bunch = info.bunch; size = info.size; moves = info.place.moves }

-- an object lies at a place of a node, in its block
pub record LiesIn (blocks : ℕ → Option Block) (at : Option Place) (name : ℕ) (k : Known) : Type 0 where
  pub place : Place
  pub lies : at ≡ Some place
  pub block : blocks place.address ≡ Some (block_at name k place)

-- a header stands in front of a block of its object
pub record Heads (blocks : ℕ → Option Block) (address : ℕ) (h : Header) : Type 0 where
  pub block : Block
  pub there : blocks address ≡ Some block
  pub named : block.name ≡ h.name
  pub sized : block.size ≡ h.size

-- some block is of the name, and of the bunch
pub record IsOf (blocks : ℕ → Option Block) (name bunch : ℕ) : Type 0 where
  pub address : ℕ
  pub block : Block
  pub there : blocks address ≡ Some block
  pub named : block.name ≡ name
  pub of : block.bunch ≡ bunch

-- all that nodes know, and all that letters in flight tell, is of blocks: each entry has its place there, each
-- header stands in front of one, each record is of one, and so is each Info in flight
pub record AllBelong (w : World) (blocks : ℕ → Option Block) : Type 0 where
  pub entries : (n x : ℕ) (k : Known) → (w.state n).known x ≡ Some k → LiesIn blocks ((w.places n).place x) x k
  pub headers : (n address : ℕ) (h : Header) → (w.places n).header address ≡ Some h → Heads blocks address h
  pub records : (n x m : ℕ) (r : Record) → (w.state n).entering x m ≡ Some r → IsOf blocks x r.bunch
  pub told : (n m : ℕ) (l : Letter) (info : Info) → Contains (w.channel n m) l → Contains (infos l.msg) info →
      blocks info.place.address ≡ Some (block_of info)

-- a store's ledger
pub record HasLedger (st : Setting) (w : World) : Type 0 where
  pub blocks : ℕ → Option Block
  pub are : AreBlocks st w blocks
  pub belong : AllBelong w blocks
