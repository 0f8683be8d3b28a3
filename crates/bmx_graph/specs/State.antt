-- The plain graph and its state: what programs on all nodes share, with no replica and no address.
use Rattle.std.specs.Prelude.{ℕ, ◌==◌, if◌then◌else◌, List, [], length, Option, None}
use Rattle.std.specs.Option.{option_map, unwrap_or}
use Rattle.std.specs.List.{find}
use Rattle.bmx_types.specs.declared.values.Val.{Val}
use Rattle.bmx_types.specs.declared.values.Val.TheVariants as val
use Rattle.bmx_types.specs.declared.numbers.Mode.{Mode}
use Rattle.bmx_types.specs.declared.openings.Birth.{Birth}

-- the graph by name, and what each node has in its registers and holds
pub record State : Type 0 where
  -- the fields of the object of a name, None where there is none
  pub object : ℕ → Option (List Val)
  -- what a node's register holds
  pub register : ℕ → ℕ → Val
  -- how a node holds the token of a name
  pub held : ℕ → ℕ → Option Mode
  -- how many names a node has made
  pub made : ℕ → ℕ

-- the fields that the object of a name opens with
abbrev pub born_as : List Birth → ℕ → Option (List Val)
born_as births name = option_map (λ b. b.fields) (find (λ b. b.name == name) births)

-- how a store opens: its births stand, made by node 0; registers are null and no token is held
abbrev pub opening_state : List Birth → State
opening_state births = record {
  object = born_as births;
  register = λ _ _. val.Null;
  held = λ _ _. None;
  made = λ n. if n == 0 then length births else 0;
}

-- the fields of an object, none where there is no object
abbrev pub fields_of : State → ℕ → List Val
fields_of s name = unwrap_or (s.object name) []
