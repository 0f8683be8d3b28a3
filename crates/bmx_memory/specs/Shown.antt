-- What a memory shows to the rules of a node: which objects it knows, where they lie, and what its registers
-- hold. No word is seen here.
use Rattle.std.specs.Prelude.{◌≡◌, ℕ, ◌^◌, ◌==◌, ◌&&◌, nat_lt, Bool, false, if◌then◌else◌, List, [], ◌∷◌, map, replicate, slice_get, slice_set, Option, Some, None, IsSome, is_some, unwrap_or, pos, refl}
use Rattle.std.specs.Option.{option_map, option_map_or, option_and_then}
use Rattle.bmx_types.specs.Updates.{put}
use Rattle.bmx_types.specs.Words.{address_word}
use Rattle.bmx_types.specs.declared.addresses.Info.{Info}
use Rattle.bmx_types.specs.declared.addresses.Place.{Place}
use Rattle.bmx_types.specs.declared.values.Val.{Val}
use Rattle.bmx_types.specs.declared.values.Val.TheVariants as val
use Rattle.bmx_segment.specs.Heaps.{made_of, handed_of, current_of}
use Rattle.bmx_segment.specs.Stores.{segment_key, block_at, header_at}
use Rattle.bmx_segment.specs.declared.headers.Header.{Header as HeaderWords}
use Rattle.bmx_segment.specs.declared.headers.State.{State}
use Rattle.bmx_segment.specs.declared.headers.State.TheVariants as state
use Rattle.bmx_replica.specs.Replicas.{Holding, Entry, entry_of}
use Rattle.bmx_token.specs.declared.parts.Part.{Part}
use Rattle.bmx_protocol.specs.declared.views.ViewField.{ViewField}
use Rattle.bmx_protocol.specs.declared.views.ViewField.TheVariants as field
use Rattle.bmx_protocol.specs.Nodes.{Known, NodeState, field_of, value_in}
use Rattle.bmx_protocol.specs.Places.{Places, Header, Standing, Lives, Went, Died, with_made, with_learnt, no_places}
use Rattle.bmx_protocol.specs.Strays.{clashes}
use Rattle.bmx_protocol.specs.Steps.{nowhere}
use Rattle.bmx_memory.specs.Contents.{Contents, register_of}

-- what is known of an object but its token and its place: its bunch, how many fields it has, and the fields
-- where there is a copy
pub record Object : Type 0 where
  pub bunch : ℕ
  pub size : ℕ
  pub copy : Option (List ViewField)

-- what a memory shows
pub record Shown : Type 0 where
  -- the node, and how many segments it may make
  pub me : ℕ
  pub limit : ℕ
  -- the object of a name, None where there is no entry
  pub object : ℕ → Option Object
  -- where objects lie
  pub places : Places
  -- what a register holds
  pub register : ℕ → Val

-- ## what contents show

-- how a header stands, and what it says
abbrev pub standing_of : State → Standing
standing_of (state.Live moves kinds) = Lives moves
standing_of (state.Forwarded to) = Went to
standing_of state.Dead = Died

abbrev pub header_of : HeaderWords → Header
header_of h = record { name = h.name; size = h.size; standing = standing_of h.state }

-- where a replica's objects lie; the numbers of segments are below 2^16
abbrev pub places_of : Holding → Places
places_of r = record {
  place = λ name. option_map (λ (e : Entry). e.place) (entry_of r name);
  header = λ a. option_map header_of (header_at r.heap.blocks a);
  mapped = λ home number. nat_lt number (2 ^ 16) && is_some (block_at r.heap.blocks (segment_key home number));
  handed = handed_of r.heap;
  opened = current_of r.heap;
  made = made_of r.heap;
}

-- the object of an entry
abbrev pub object_of : Entry → Object
object_of e = record { bunch = e.bunch; size = e.size; copy = option_map (map field_of) e.copy }

-- what contents show
unfoldable pub shown : Contents → Shown
shown m = record {
  me = m.replica.heap.me;
  limit = m.replica.heap.limit;
  object = λ name. option_map object_of (entry_of m.replica name);
  places = places_of m.replica;
  register = register_of m;
}

-- ## beside tokens

-- an object with its token
abbrev pub known_as : Part → Object → Known
known_as part o = record { bunch = o.bunch; size = o.size; copy = o.copy; part = part }

-- what is known of the object of a name, with the tokens
abbrev pub known_with : (ℕ → Option Object) → (ℕ → Part) → ℕ → Option Known
known_with object parts name = option_map (known_as (parts name)) (object name)

-- where the object of a name lies
abbrev pub lies_in : Places → ℕ → Place
lies_in a name = unwrap_or (a.place name) nowhere

-- a node's state knows what a memory shows, and objects lie where the memory shows them
pub record Sees (m : Shown) (s : NodeState) (lies : ℕ → Place) : Type 0 where
  pub parts : ℕ → Part
  pub known : s.known ≡ known_with m.object parts
  pub places : (name : ℕ) → lies name ≡ lies_in m.places name

-- ## look-ups

-- a value that refers to a name refers to one with an entry
abbrev pub HasEntry : Shown → Val → Type 0
HasEntry m val.Null = Unit {0}
HasEntry m (val.Int k) = Unit {0}
HasEntry m (val.Ref name) = IsSome (m.object name)

-- the values in the fields of a name's copy, and in one of them
abbrev pub values_of : Shown → ℕ → Option (List Val)
values_of m name = option_and_then (λ (o : Object). option_map (map value_in) o.copy) (m.object name)

abbrev pub value_of : Shown → ℕ → ℕ → Option Val
value_of m name i = option_and_then (λ fields. slice_get fields i) (values_of m name)

-- what registers and copies refer to has an entry
pub record AllHaveEntries (m : Shown) : Type 0 where
  pub registers : (r : ℕ) → HasEntry m (m.register r)
  pub fields : (name i : ℕ) (v : Val) → value_of m name i ≡ Some v → HasEntry m v

-- the name has a copy
abbrev pub has_copy : Shown → ℕ → Bool
has_copy m name = option_map_or (λ (o : Object). is_some o.copy) (m.object name) false

-- what the node tells of the object of a name
abbrev pub info_of : Shown → ℕ → Option Info
info_of m name = option_map (λ (o : Object). record { name = name; bunch = o.bunch; size = o.size; place = lies_in m.places name }) (m.object name)

-- ## changes

-- a register holds the value
abbrev pub with_register : Shown → ℕ → Val → Shown
with_register m r v = record m { register = put m.register r v }

-- the fields of an object's copy
abbrev pub with_fields : Option (List ViewField) → Object → Object
with_fields fields o = record o { copy = fields }

-- a name has a copy with these fields, or none
abbrev pub with_copy : Shown → ℕ → Option (List ViewField) → Shown
with_copy m name fields = record m { object = put m.object name (option_map (with_fields fields) (m.object name)) }

-- a field of an object's copy holds the value
abbrev pub with_value : ℕ → Val → Object → Object
with_value i v o = record o { copy = option_map (λ fields. slice_set fields i (field_of v)) o.copy }

-- a field of a name's copy holds the value
abbrev pub with_stored : Shown → ℕ → ℕ → Val → Shown
with_stored m name i v = record m { object = put m.object name (option_map (with_value i v) (m.object name)) }

-- an object whose fields are null
abbrev pub null_object : ℕ → ℕ → Object
null_object bunch size = record { bunch = bunch; size = size; copy = Some (replicate size field.Null) }

-- an object is made
abbrev pub with_object : Shown → ℕ → ℕ → ℕ → Shown
with_object m name bunch size = record m {
  object = put m.object name (Some (null_object bunch size));
  places = with_made m.me m.places name bunch size;
}

-- an object that an Info tells of is known: one that there was stays
abbrev pub object_told : (ℕ → Option Object) → Info → ℕ → Option Object
object_told object info =
    if is_some (object info.name) then object
    else put object info.name (Some (record { bunch = info.bunch; size = info.size; copy = None }))

-- an Info is learnt
abbrev pub with_info : Shown → Info → Shown
with_info m info = record m { object = object_told m.object info; places = with_learnt m.places info }

-- an Info doesn't clash with what the memory shows, beside some tokens; which they are tells nothing of it
pub record Fits (m : Shown) (info : Info) : Type 0 where
  pub parts : ℕ → Part
  pub none : clashes m.me (known_with m.object parts) m.places info ≡ false

-- ## cases

-- an object of two fields, of which the first holds 7, and a register that refers to it
abbrev pub one_object : Shown
one_object = record {
  me = 0;
  limit = 4;
  object = λ name. if name == 2 then Some (record { bunch = 0; size = 2; copy = Some (field.Int (pos 7) ∷ field.Null ∷ []) }) else None;
  places = no_places;
  register = λ register. if register == 3 then val.Ref 2 else val.Null;
}

a_field_is_read : value_of one_object 2 0 ≡ Some (val.Int (pos 7))
a_field_is_read = refl

no_field_is_behind : value_of one_object 2 2 ≡ None
no_field_is_behind = refl

an_unknown_name_has_no_copy : has_copy one_object 5 ≡ false
an_unknown_name_has_no_copy = refl

a_stored_value_is_read : value_of (with_stored one_object 2 1 (val.Ref 2)) 2 1 ≡ Some (val.Ref 2)
a_stored_value_is_read = refl

a_cleared_copy_is_gone : has_copy (with_copy one_object 2 None) 2 ≡ false
a_cleared_copy_is_gone = refl

a_new_object_is_null : value_of (with_object one_object 5 0 1) 5 0 ≡ Some val.Null
a_new_object_is_null = refl

a_new_object_lies_first : info_of (with_object one_object 5 0 1) 5 ≡ Some (record { name = 5; bunch = 0; size = 1; place = record { address = address_word 0 1 0; moves = 0 } })
a_new_object_lies_first = refl

-- node 1 tells of an object that lies in a segment of its own
abbrev pub told_object : ℕ → ℕ → Info
told_object name size = record { name = name; bunch = 0; size = size; place = record { address = address_word 1 1 0; moves = 0 } }

what_is_told_has_no_copy : has_copy (with_info one_object (told_object 5 1)) 5 ≡ false
what_is_told_has_no_copy = refl

what_was_known_keeps_its_copy : value_of (with_info one_object (told_object 2 2)) 2 0 ≡ Some (val.Int (pos 7))
what_was_known_keeps_its_copy = refl
