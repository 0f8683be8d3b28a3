-- The table of a bunch that a node makes for a node, as a snapshot of its state; which tables are stray; and what one
-- that is taken ends, by the cleaner's definition (bmx_clean).
use Rattle.std.specs.Prelude.{◌≡◌, refl, false, ◌^◌, ℕ, ◌+◌, ◌==◌, ◌&&◌, ◌||◌, not, nat_lt, nat_le, Bool, true, List, [], ◌∷◌, map, filter}
use Rattle.bmx_types.specs.declared.names.Pair.{Pair}
use Rattle.bmx_types.specs.Updates.{put}
use Rattle.bmx_table.specs.declared.tables.Table.{Table}
use Rattle.bmx_table.specs.Tables.{own_alone}
use Rattle.bmx_inter.specs.declared.inter.Stub.{Stub}
use Rattle.bmx_inter.specs.Order.{is_ahead}
use Rattle.bmx_inter.specs.Inter.{stub_pair}
use Rattle.bmx_clean.specs.Cleaning.{record_left, scions_left}
use Rattle.bmx_protocol.specs.Nodes.{Setting, NodeState}
use Rattle.bmx_protocol.specs.Strays.{too_large, is_no_node}
use Rattle.bmx_collection.specs.Links.{Links}
use Rattle.bmx_protocol.specs.Nodes.{first_state}
use Rattle.bmx_protocol.specs.Cases.{one_bunch}
use Rattle.bmx_collection.specs.Links.{no_links}

-- ## making one

-- the references out of the bunch that have a stub
abbrev pub pairs_out_of : ℕ → Links → List Pair
pairs_out_of bunch l = map stub_pair (filter (λ s. s.bunch == bunch) l.stubs)

-- the table of a bunch for a node, made in the next step at a stamp: it lists the names of the bunch that the node
-- would ask there for and, where the node makes it for itself, the references that have a stub
abbrev pub table_of : ℕ → NodeState → Links → ℕ → ℕ → ℕ → List ℕ → Table
table_of me s l stamp bunch to children = record {
  from = me;
  to = to;
  number = l.tables to + 1;
  stamp = stamp;
  bunch = bunch;
  sent = s.issued to;
  got = s.taken to;
  clock = s.clock + 1;
  names = children;
  stubs = own_alone me to (pairs_out_of bunch l);
  intra = [];
}

-- one table more was made for a node
abbrev pub with_table : ℕ → Links → Links
with_table to l = record l { tables = put l.tables to (l.tables to + 1) }

-- ## stray ones

-- each element of a list stands before the next
abbrev pub rises : {X : Type 0} → (X → X → Bool) → List X → Bool
rises before [] = true
rises before (x ∷ []) = true
rises before (x ∷ y ∷ more) = before x y && rises before (y ∷ more)

-- a table is stray: it is for another node, its maker is no node, its stamp is too large, or a list doesn't rise
abbrev pub is_stray_table : Setting → ℕ → Table → Bool
is_stray_table st me t =
    not (t.to == me)
    || is_no_node st t.from
    || nat_le too_large t.stamp
    || not (rises nat_lt t.names)
    || not (rises is_ahead t.stubs)
    || not (rises is_ahead t.intra)

-- ## taking one

-- the state and the links once a table ended records and scions: each of those that stay is as it was
abbrev pub state_cleaned : Table → NodeState → NodeState
state_cleaned t s = record s { entering = λ name node. record_left (s.taken t.from) t (s.entering name node) }

abbrev pub links_cleaned : Table → NodeState → Links → Links
links_cleaned t s l = record l { scions = scions_left (s.taken t.from) t l.scions }

-- ## cases

-- node 1 has a stub of a reference out of bunch 0 and one out of bunch 1: its table of bunch 0 for itself lists the
-- first, one for node 0 lists none
a_stub : ℕ → Stub
a_stub bunch = record { source = 3 + bunch; bunch = bunch; target = 9 }

abbrev stubs_listed : ℕ → List Pair
stubs_listed to = (table_of 1 (first_state (one_bunch 2) 1) (record no_links { stubs = a_stub 0 ∷ a_stub 1 ∷ [] }) 5 0 to []).stubs

to_itself_alone : (stubs_listed 1 ≡ record { source = 3; target = 9 } ∷ []) × (stubs_listed 0 ≡ [])
unfolding a_stub
to_itself_alone = (refl, refl)

-- the first table of node 1 for node 0 fits node 0; it is stray where it is for another node, from no node, of too
-- large a stamp, or where its names don't rise
abbrev a_table : Table
a_table = table_of 1 (first_state (one_bunch 2) 1) no_links 5 0 0 (1 ∷ 4 ∷ [])

stray_tables :
    (is_stray_table (one_bunch 2) 0 a_table ≡ false)
    × (is_stray_table (one_bunch 2) 1 a_table ≡ true)
    × (is_stray_table (one_bunch 2) 0 (record a_table { from = 2 }) ≡ true)
    × (is_stray_table (one_bunch 2) 0 (record a_table { stamp = 2 ^ 62 }) ≡ true)
    × (is_stray_table (one_bunch 2) 0 (record a_table { names = 4 ∷ 4 ∷ [] }) ≡ true)
    × (is_stray_table (one_bunch 2) 0 (record a_table { stubs = record { source = 3; target = 9 } ∷ record { source = 3; target = 8 } ∷ [] }) ≡ true)
stray_tables = (refl, refl, refl, refl, refl, refl)
