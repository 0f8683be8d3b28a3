-- What the worked runs are written with: stores, objects, tables, and what a node has at the end.
use Rattle.std.specs.Prelude.{ℕ, true, List, [], ◌∷◌, map, filter, filter_map, replicate, Option, Some}
use Rattle.std.specs.Option.{option_map}
use Rattle.std.specs.List.{flat_map}
use Rattle.bmx_types.specs.Words.{home_of, segment_of}
use Rattle.bmx_types.specs.declared.values.Val.{Val}
use Rattle.bmx_types.specs.declared.values.Val.TheVariants as val
use Rattle.bmx_types.specs.declared.addresses.Info.{Info}
use Rattle.bmx_types.specs.declared.addresses.Place.{Place}
use Rattle.bmx_types.specs.declared.names.Pair.{Pair}
use Rattle.bmx_table.specs.declared.tables.Table.{Table}
use Rattle.bmx_owner.specs.declared.entering.Record.{Record}
use Rattle.bmx_inter.specs.declared.inter.Stub.{Stub}
use Rattle.bmx_inter.specs.declared.inter.Scion.{Scion}
use Rattle.bmx_msg.specs.declared.letters.Msg.{Msg}
use Rattle.bmx_protocol.specs.declared.inputs.Sending.{Sending}
use Rattle.bmx_token.specs.Tokens.{owner_part, child_part}
use Rattle.bmx_protocol.specs.declared.views.ViewField.{ViewField}
use Rattle.bmx_protocol.specs.Nodes.{Setting, Known}
use Rattle.bmx_protocol.specs.Places.{Places, Header, Lives, Went}
use Rattle.bmx_collection.specs.Steps.{LinkedNode}
use Rattle.bmx_collection.specs.Finding.{passing, below, records_below, first_words}

-- so many nodes and two bunches, whose anchors are 0.1 and 0.2
abbrev pub two_bunches : ℕ → Setting
two_bunches nodes = record {
  nodes = nodes;
  limit = 65535;
  births =
      record { name = 1; bunch = 0; fields = replicate 32 val.Null }
      ∷ record { name = 2; bunch = 1; fields = replicate 32 val.Null } ∷ [];
}

-- an object as a letter tells it
abbrev pub object : ℕ → ℕ → ℕ → ℕ → ℕ → Info
object name bunch size address moves = record { name = name; bunch = bunch; size = size; place = record { address = address; moves = moves } }

abbrev pub pair : ℕ → ℕ → Pair
pair source target = record { source = source; target = target }

-- letter number seq of a stamp
abbrev pub letter : ℕ → ℕ → ℕ → Msg → Sending
letter to seq stamp m = record { to = to; letter = record { seq = seq; stamp = stamp; msg = m } }

-- a table without covers
abbrev pub table : ℕ → ℕ → ℕ → ℕ → ℕ → ℕ → ℕ → ℕ → List ℕ → List Pair → Table
table from to number stamp bunch sent got clock names stubs = record {
  from = from;
  to = to;
  number = number;
  stamp = stamp;
  bunch = bunch;
  sent = sent;
  got = got;
  clock = clock;
  names = names;
  stubs = stubs;
  intra = [];
}

-- ## what a node has at the end

-- what is known of an object: by its owner, with the nodes that read it; and by a node that asks that one for it, with a
-- copy or without
abbrev pub owned : ℕ → ℕ → List ViewField → List ℕ → Known
owned bunch size fields readers = record { bunch = bunch; size = size; copy = Some fields; part = record owner_part { readers = readers } }

abbrev pub asked_of : ℕ → ℕ → ℕ → Option (List ViewField) → Known
asked_of parent bunch size copy = record { bunch = bunch; size = size; copy = copy; part = child_part parent }

-- a record of a name of the bunch from a node
abbrev pub recorded : ℕ → ℕ → ℕ → ℕ → ℕ → Record
recorded name bunch from sent got = record { name = name; bunch = bunch; from = from; sent = sent; got = got }

-- a place
abbrev pub lies : ℕ → ℕ → Place
lies address moves = record { address = address; moves = moves }

-- a header of an object that lies here, and of one that went on
abbrev pub lives : ℕ → ℕ → ℕ → Header
lives name size moves = record { name = name; size = size; standing = Lives moves }

abbrev pub went : ℕ → ℕ → ℕ → Header
went name size to = record { name = name; size = size; standing = Went to }

-- a node's counts: its steps, the names and the segments that it made, and for each node of so many the letters that it
-- issued and took and the tables that it made
pub record Counts : Type 0 where
  pub clock : ℕ
  pub made : ℕ
  pub segments : ℕ
  pub issued : List ℕ
  pub taken : List ℕ
  pub tables : List ℕ

abbrev pub counts_of : ℕ → LinkedNode → Counts
counts_of nodes n = record {
  clock = n.state.clock;
  made = n.state.made;
  segments = n.places.made;
  issued = map n.state.issued (below nodes);
  taken = map n.state.taken (below nodes);
  tables = map n.links.tables (below nodes);
}

-- what functions of numbers have below 8, by rising number: the runs have no other names, nodes and segments
abbrev pub listed : {X : Type 0} → (ℕ → Option X) → List ℕ → List (ℕ × X)
listed of numbers = filter_map (λ n. option_map (λ x. (n, x)) (of n)) numbers

-- the first words of the segments that are mapped
abbrev pub mapped_at : Places → List ℕ
mapped_at a = filter (λ first. a.mapped (home_of first) (segment_of first)) (first_words 8 8)

-- all that a node of so many has: its counts, its registers, what it knows of each name and where it lies, its records,
-- stubs and scions, the segments that are mapped, by their first words, and each header in them, by its address
pub record Left : Type 0 where
  pub counts : Counts
  pub registers : List Val
  pub entries : List (ℕ × Known)
  pub places : List (ℕ × Place)
  pub records : List Record
  pub stubs : List Stub
  pub scions : List Scion
  pub mapped : List ℕ
  pub headers : List (ℕ × Header)

abbrev pub left_at : ℕ → LinkedNode → Left
left_at nodes n = record {
  counts = counts_of nodes n;
  registers = map n.state.register (below 16);
  entries = listed n.state.known (below 8);
  places = listed n.places.place (below 8);
  records = records_below 8 n.state;
  stubs = n.links.stubs;
  scions = n.links.scions;
  mapped = mapped_at n.places;
  headers = flat_map (λ first. listed n.places.header (passing (λ word. true) first 1024)) (mapped_at n.places);
}
