-- What a node goes by when it looks at a letter by itself.
use Rattle.std.specs.Prelude.{◌≡◌, ℕ, ◌==◌, ◌||◌, not, Bool, List, length, filter_map}
use Rattle.std.specs.List.{list_any}
use Rattle.bmx_types.specs.Openings.{bunches_of}
use Rattle.bmx_types.specs.declared.addresses.Info.{Info}
use Rattle.bmx_msg.specs.declared.letters.Field.{Field}
use Rattle.bmx_protocol.specs.Nodes.{Setting, NodeState}
use Rattle.bmx_protocol.specs.Rules.{info_in}
use Rattle.bmx_protocol.specs.Strays.{is_bad_info}
use Rattle.bmx_node.specs.declared.strays.Screen.{Screen}

-- the numbers are those of a setting and a state
pub record Screens (g : Screen) (st : Setting) (s : NodeState) : Type 0 where
  pub nodes : st.nodes ≡ g.store.nodes
  pub bunches : bunches_of st.births ≡ g.store.bunches
  pub made : s.made ≡ g.made

-- an Info in fields can't be
abbrev pub has_bad_info : Setting → ℕ → NodeState → List Field → Bool
has_bad_info st me s fields = list_any (is_bad_info st me s) (filter_map info_in fields)

-- a grant has more or fewer fields than its size, or an Info that can't be
abbrev pub is_bad_grant : Setting → ℕ → NodeState → Info → List Field → Bool
is_bad_grant st me s info fields = not (length fields == info.size) || (is_bad_info st me s info || has_bad_info st me s fields)
