-- What a store opens with as memories show it, told one birth after another.
use Rattle.std.specs.Prelude.{ℕ, List, [], ◌∷◌, length, map, Some, None}
use Rattle.std.specs.Option.{option_map}
use Rattle.bmx_types.specs.declared.values.Val.TheVariants as val
use Rattle.bmx_types.specs.declared.openings.Birth.{Birth}
use Rattle.bmx_protocol.specs.Nodes.{Setting, field_of, birth_of}
use Rattle.bmx_protocol.specs.Places.{no_places, owner_places, with_told, by_bunch}
pub use Rattle.bmx_node.specs.Openings.{setting_of}
use Rattle.bmx_memory.specs.Shown.{Shown, Object, null_object, with_object}

-- ## objects

-- an object that the store opens with: with its fields, as its maker has it; without, as it is first made; and as
-- another node has heard of it
abbrev pub born_object : Birth → Object
born_object b = record { bunch = b.bunch; size = length b.fields; copy = Some (map field_of b.fields) }

abbrev pub blank_object : Birth → Object
blank_object b = null_object b.bunch (length b.fields)

abbrev pub heard_object : Birth → Object
heard_object b = record { bunch = b.bunch; size = length b.fields; copy = None }

-- ## memories

-- no object
abbrev pub no_object : ℕ → ℕ → Shown
no_object me limit = record { me = me; limit = limit; object = λ name. None; places = no_places; register = λ r. val.Null }

-- births are made, one after another, with null fields
abbrev pub with_blanks : Shown → List Birth → Shown
with_blanks m [] = m
with_blanks m (b ∷ bs) = with_blanks (with_object m b.name b.bunch (length b.fields)) bs

-- node 0 has made the births of the first bunches
abbrev pub blank_until : ℕ → List Birth → ℕ → Shown
blank_until limit births bunch = with_blanks (no_object 0 limit) (by_bunch births bunch)

-- what node 0 shows at first
abbrev pub owner_shown : Setting → Shown
owner_shown st = record {
  me = 0;
  limit = st.limit;
  object = λ name. option_map born_object (birth_of st name);
  places = owner_places st;
  register = λ r. val.Null;
}
