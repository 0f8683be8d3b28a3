-- What the laws over all histories with collectors say besides those that hold without: pairs stand for references
-- between bunches, and no table that was made so far can end what is needed. (That a ready token is wanted, and that no
-- table ends a record that is needed, is proved in bmx_collection_laws, by the laws of one object's token.)
use Rattle.std.specs.Prelude.{◌≡◌, ℕ, ◌<◌, ◌≢◌, true, false, List, Contains, Some, IsSome}
use Rattle.bmx_table.specs.declared.tables.Table.{Table}
use Rattle.bmx_msg.specs.declared.letters.Letter.{Letter}
use Rattle.bmx_msg.specs.Letters.{given}
use Rattle.bmx_owner.specs.declared.entering.Record.{Record}
use Rattle.bmx_inter.specs.declared.inter.Stub.{Stub}
use Rattle.bmx_inter.specs.declared.inter.Scion.{Scion}
use Rattle.bmx_inter.specs.Order.{find_one}
use Rattle.bmx_inter.specs.Inter.{stub_pair, scion_pair}
use Rattle.bmx_clean.specs.Cleaning.{ends_record, ends_scion}
use Rattle.bmx_protocol.specs.Nodes.{Setting, Known}
use Rattle.bmx_protocol.specs.Worlds.{World, HasParent, IsHandedOver}
use Rattle.bmx_protocol.specs.Histories.{in_flight}
use Rattle.bmx_collection.specs.Links.{Links}
use Rattle.bmx_collection.specs.Reach.{refers}
use Rattle.bmx_collection.specs.Steps.{LinkedNode}
use Rattle.bmx_collection.specs.Histories.{LinkedEvent, plain_events, tables_made}

-- all nodes and the letters in flight, without links; with them; and the tables that were made
pub record LinkedWorld : Type 0 where
  pub world : World
  pub links : ℕ → Links
  pub tables : List Table

-- the world of nodes after a history with collectors
abbrev pub linked_world_of : (ℕ → LinkedNode) → List LinkedEvent → LinkedWorld
linked_world_of nodes history = record {
  world = record {
    state = λ n. (nodes n).state;
    places = λ n. (nodes n).places;
    channel = λ n m. in_flight n m (plain_events history);
  };
  links = λ n. (nodes n).links;
  tables = tables_made history;
}

-- ## tokens

-- a token that is ready is wanted: so an entry that goes, of which nothing is wanted, has none that is ready
abbrev pub ReadyIsWanted : LinkedWorld → Type 0
ReadyIsWanted w = (n name : ℕ) (k : Known) → (w.world.state n).known name ≡ Some k → k.part.ready ≡ true → IsSome k.part.want

-- ## pairs

-- the stub and the scion of a reference stand
pub record HasPair (l : Links) (source target : ℕ) : Type 0 where
  pub stub : IsSome (find_one stub_pair l.stubs source target)
  pub scion : IsSome (find_one scion_pair l.scions source target)

-- what a copy refers to is known at its node, and has its pair there where it is of another bunch
pub record PairsStand (st : Setting) (w : LinkedWorld) : Type 0 where
  pub entries : (n source target : ℕ) → n < st.nodes → refers (w.world.state n) source target ≡ true → IsSome ((w.world.state n).known target)
  pub pairs : (n source target : ℕ) (from to : Known) → n < st.nodes → (w.world.state n).known source ≡ Some from →
      (w.world.state n).known target ≡ Some to → from.bunch ≢ to.bunch → refers (w.world.state n) source target ≡ true →
      HasPair (w.links n) source target

-- each stub has its scion
abbrev pub StubsHaveScions : LinkedWorld → Type 0
StubsHaveScions w = (n : ℕ) (s : Stub) → Contains (w.links n).stubs s → IsSome (find_one scion_pair (w.links n).scions s.source s.target)

-- ## tables

-- the record of a name from a node is needed here: that node would ask here for it, and isn't handing it over; or a
-- letter that gives the name to that node is in flight
pub data IsRecordNeeded (w : World) (here node name : ℕ) : Type 0 where
  ByItsParent : (k : Known) → HasParent w name node here k → (IsHandedOver w name node here → ⊥) → IsRecordNeeded w here node name
  ByALetter : (l : Letter) → Contains (w.channel here node) l → Contains (given l.msg) name → IsRecordNeeded w here node name

-- a table, if it were taken now, ends no record that is needed
abbrev pub EndsNoNeededRecord : LinkedWorld → Table → Type 0
EndsNoNeededRecord w t =
    (name : ℕ) (r : Record) → (w.world.state t.to).entering name t.from ≡ Some r → IsRecordNeeded w.world t.to t.from name →
    ends_record ((w.world.state t.to).taken t.from) t r ≡ false

-- nor a scion whose stub stands
abbrev pub EndsNoNeededScion : LinkedWorld → Table → Type 0
EndsNoNeededScion w t =
    (c : Scion) → Contains (w.links t.to).scions c → IsSome (find_one stub_pair (w.links t.to).stubs c.source c.target) →
    ends_scion ((w.world.state t.to).taken t.from) t c ≡ false

-- no table that was made so far ends such a record, or such a scion
abbrev pub NoTableEndsARecord : LinkedWorld → Type 0
NoTableEndsARecord w = (t : Table) → Contains w.tables t → EndsNoNeededRecord w t

abbrev pub NoTableEndsAScion : LinkedWorld → Type 0
NoTableEndsAScion w = (t : Table) → Contains w.tables t → EndsNoNeededScion w t

-- no table that was made so far does harm, however late and often it comes
abbrev pub NoTableHarms : LinkedWorld → Type 0
NoTableHarms w = NoTableEndsARecord w × NoTableEndsAScion w
