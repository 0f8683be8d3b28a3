-- What a letter tells of objects, and whether a replica can learn it.
use Rattle.std.specs.Prelude.{ℕ, ◌==◌, nat_lt, Bool, true, if◌then◌else◌, List, [], ◌∷◌, map, filter_map, Option, Some, None}
use Rattle.bmx_types.specs.declared.values.Val.{Val}
use Rattle.bmx_types.specs.declared.values.Val.TheVariants as val
use Rattle.bmx_types.specs.declared.addresses.Info.{Info}
use Rattle.bmx_msg.specs.declared.letters.Field.{Field}
use Rattle.bmx_msg.specs.declared.letters.Field.TheVariants as msg_field
use Rattle.bmx_msg.specs.declared.letters.Msg.{Msg}
use Rattle.bmx_msg.specs.declared.letters.Msg.TheVariants as msg
use Rattle.bmx_replica.specs.Layouts.{Ground, ground_of, blank_header}
use Rattle.bmx_replica.specs.Replicas.{Holding, Entry, entry_of, learned, AcceptsOn}

-- the Info in a field
abbrev pub info_told : Field → Option Info
info_told msg_field.Null = None
info_told (msg_field.Int k) = None
info_told (msg_field.Ref info) = Some info

-- the value in a field: a reference is to the name of its Info
abbrev pub value_told : Field → Val
value_told msg_field.Null = val.Null
value_told (msg_field.Int k) = val.Int k
value_told (msg_field.Ref info) = val.Ref info.name

-- the values of fields in order
abbrev pub values_told : List Field → List Val
values_told fields = map value_told fields

-- the Infos of a granted object: its own, then those of its fields in order
abbrev pub infos_told : Info → List Field → List Info
infos_told info fields = info ∷ filter_map info_told fields

-- the Infos of a message: only grants have some
abbrev pub infos_in : Msg → List Info
infos_in (msg.ReadReq name asker) = []
infos_in (msg.WriteReq name asker) = []
infos_in (msg.ReadGrant info fields) = infos_told info fields
infos_in (msg.WriteGrant info fields) = infos_told info fields
infos_in (msg.Inval name) = []
infos_in (msg.InvAck name) = []

-- what decides whether Infos can be learned: what there is under each name, and what decides where objects
-- can lie
pub record Sketch : Type 0 where
  pub entry : ℕ → Option Entry
  pub ground : Ground

-- that of a replica
abbrev pub sketch_of : Holding → Sketch
sketch_of r = record { entry = entry_of r; ground = ground_of r.heap }

-- the place in an Info is taken beside an entry: there is none, or one of fewer moves
abbrev pub is_newer : Info → Option Entry → Bool
is_newer i None = true
is_newer i (Some e) = nat_lt e.place.moves i.place.moves

-- the object of an Info begins at its place
abbrev pub with_object : Ground → Info → Ground
with_object g i = record g { header = λ a. if i.place.address == a then Some (blank_header i) else g.header a }

-- an Info is learned: its name has the entry after it, and where its place is taken the object begins there
abbrev pub with_learned : Sketch → Info → Sketch
with_learned s i = record {
  entry = λ name. if i.name == name then Some (learned i (s.entry i.name)) else s.entry name;
  ground = if is_newer i (s.entry i.name) then with_object s.ground i else s.ground;
}

-- Infos can be learned one after another: each is accepted once those before it are learned
abbrev pub CanLearn : Sketch → List Info → Type 0
CanLearn s [] = Unit {0}
CanLearn s (i ∷ more) = AcceptsOn s.ground i (s.entry i.name) × CanLearn (with_learned s i) more
