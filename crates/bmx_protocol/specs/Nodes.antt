-- A node's state by names: what it knows of each object, its registers, its records and its counts.
-- Functions of numbers stand for the lists of a `View`; `Shows` says that a view lists exactly them.
use Rattle.std.specs.Prelude.{◌≡◌, ℕ, ◌<◌, ◌==◌, ◌&&◌, nat_lt, nat_le, Bool, if◌then◌else◌, List, length, map, find, slice_get, slice_set, AllPairs, Contains, ◌↔◌, Option, Some, None, is_some}
use Rattle.std.specs.Option.{option_map, option_map_or}
use Rattle.std.specs.List.Sorted.{IsStrictlyIncreasing}
use Rattle.bmx_types.specs.Openings.{bunches_of}
use Rattle.bmx_types.specs.declared.values.Val.{Val}
use Rattle.bmx_types.specs.declared.values.Val.TheVariants as val
use Rattle.bmx_types.specs.declared.openings.Birth.{Birth}
use Rattle.bmx_token.specs.declared.parts.Part.{Part}
use Rattle.bmx_token.specs.Tokens.{owner_part, child_part}
use Rattle.bmx_token.specs.Transitions.{Share}
use Rattle.bmx_owner.specs.declared.entering.Record.{Record}
use Rattle.bmx_owner.specs.Records.{IsInOrder, find_record, blank}
use Rattle.bmx_graph.specs.State.{State}
use Rattle.bmx_protocol.specs.declared.views.Entry.{Entry}
use Rattle.bmx_protocol.specs.declared.views.View.{View}
use Rattle.bmx_protocol.specs.declared.views.ViewField.{ViewField}
use Rattle.bmx_protocol.specs.declared.views.ViewField.TheVariants as field

-- what a store opens with, as plain data: its nodes, how many segments each may make, and the objects
-- of node 0
pub record Setting : Type 0 where
  pub nodes : ℕ
  pub limit : ℕ
  pub births : List Birth

-- what a node knows of an object: its bunch, how many fields it has, the fields where the node has a
-- copy, and its token there
pub record Known : Type 0 where
  pub bunch : ℕ
  pub size : ℕ
  pub copy : Option (List ViewField)
  pub part : Part

-- a node's state by names
pub record NodeState : Type 0 where
  -- what it knows of the object of a name, None where it has no entry
  pub known : ℕ → Option Known
  -- what a register holds
  pub register : ℕ → Val
  -- the entering record of a name and a node
  pub entering : ℕ → ℕ → Option Record
  -- how many letters were issued to a node, and taken from it
  pub issued : ℕ → ℕ
  pub taken : ℕ → ℕ
  -- how many steps and how many names were made
  pub clock : ℕ
  pub made : ℕ

-- ## fields and values

-- a value as a field of a copy, and back
abbrev pub field_of : Val → ViewField
field_of val.Null = field.Null
field_of (val.Int k) = field.Int k
field_of (val.Ref name) = field.Ref name

abbrev pub value_in : ViewField → Val
value_in field.Null = val.Null
value_in (field.Int k) = val.Int k
value_in (field.Ref name) = val.Ref name

-- ## what a node has of an object

-- whether it has a copy, and its token there
abbrev pub share_of : Known → Share
share_of k = record { copy = is_some k.copy; part = k.part }

-- a field of the copy holds the value
abbrev pub with_field : ℕ → Val → Known → Known
with_field index v k = record k { copy = option_map (λ fields. slice_set fields index (field_of v)) k.copy }

-- numbers rise, and are all that have a property
pub record AreAll (Has : ℕ → Type 0) (numbers : List ℕ) : Type 0 where
  pub rising : IsStrictlyIncreasing numbers
  pub all : (n : ℕ) → Contains numbers n ↔ Has n

-- ## the part of the graph that a node sees

-- the fields of the copy of what is known
abbrev pub fields_known : Option Known → Option (List Val)
fields_known None = None
fields_known (Some k) = option_map (map value_in) k.copy

-- its own copies, registers and tokens, as a graph: it sees nothing of other nodes
abbrev pub seen_graph : ℕ → NodeState → State
seen_graph me s = record {
  object = λ name. fields_known (s.known name);
  register = λ n r. if n == me then s.register r else val.Null;
  held = λ n name. if n == me then option_map_or (λ k. k.part.held) (s.known name) None else None;
  made = λ n. if n == me then s.made else 0;
}

-- ## the opening

-- the name is that of a bunch's anchor
abbrev pub is_anchor : Setting → ℕ → Bool
is_anchor st name = nat_lt 0 name && nat_le name (bunches_of st.births)

-- the birth of a name
abbrev pub birth_of : Setting → ℕ → Option Birth
birth_of st name = find (λ b. b.name == name) st.births

-- node 0 owns an object that the store opens with
abbrev pub owned_birth : Birth → Known
owned_birth b = record { bunch = b.bunch; size = length b.fields; copy = Some (map field_of b.fields); part = owner_part }

-- another node has heard of an anchor
abbrev pub heard_birth : Birth → Known
heard_birth b = record { bunch = b.bunch; size = length b.fields; copy = None; part = child_part 0 }

-- what a node knows at first: node 0 each birth, another node of the store each anchor
abbrev pub first_known : Setting → ℕ → ℕ → Option Known
first_known st me name =
    if me == 0 then option_map owned_birth (birth_of st name)
    else (if nat_lt me st.nodes && is_anchor st name then option_map heard_birth (birth_of st name) else None)

-- the first records: at node 0 one of each anchor from each other node
abbrev pub first_entering : Setting → ℕ → ℕ → ℕ → Option Record
first_entering st me name node =
    if me == 0 && nat_lt 0 node && nat_lt node st.nodes && is_anchor st name
    then option_map (λ b. blank name b.bunch node) (birth_of st name)
    else None

-- a node's state at first
abbrev pub first_state : Setting → ℕ → NodeState
first_state st me = record {
  known = first_known st me;
  register = λ r. val.Null;
  entering = first_entering st me;
  issued = λ m. 0;
  taken = λ m. 0;
  clock = 0;
  made = if me == 0 then length st.births else 0;
}

-- ## the view

-- the entry that shows what is known of a name
abbrev pub entry_of : ℕ → Known → Entry
entry_of name k = record {
  name = name;
  bunch = k.bunch;
  size = k.size;
  role = k.part.role;
  copy = k.copy;
  held = k.part.held;
  want = k.part.want;
  ready = k.part.ready;
  due = k.part.due;
  readers = k.part.readers;
  queue = k.part.queue;
  waiting = k.part.waiting;
}

-- the numbers are those of the nodes
pub record AreNumbers (nodes : ℕ) (numbers : List ℕ) (of_node : ℕ → ℕ) : Type 0 where
  pub each : length numbers ≡ nodes
  pub same : (m : ℕ) → m < nodes → slice_get numbers m ≡ Some (of_node m)

-- a view shows the state of a node of so many: its entries rise by name and its records by name and
-- node, and they list what the state has and nothing else
pub record Shows (nodes : ℕ) (view : View) (s : NodeState) : Type 0 where
  pub rising : AllPairs (λ (d e : Entry). d.name < e.name) view.entries
  pub entries : (name : ℕ) → find (λ e. e.name == name) view.entries ≡ option_map (entry_of name) (s.known name)
  pub all_registers : length view.registers ≡ 16
  pub registers : (r : ℕ) → r < 16 → slice_get view.registers r ≡ Some (s.register r)
  pub in_order : IsInOrder view.records
  pub records : (name node : ℕ) → find_record view.records name node ≡ s.entering name node
  pub issued : AreNumbers nodes view.issued s.issued
  pub taken : AreNumbers nodes view.taken s.taken
  pub clock : view.clock ≡ s.clock
  pub made : view.made ≡ s.made
