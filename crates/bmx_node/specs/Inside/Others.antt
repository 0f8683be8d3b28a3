-- What nodes have at first beside node 0's memory.
use Rattle.std.specs.Prelude.{◌≡◌, ℕ, ◌+◌, ◌≤◌, if◌then◌else◌, filter, None}
use Rattle.std.specs.Option.{option_map}
use Rattle.bmx_types.specs.declared.values.Val.TheVariants as val
use Rattle.bmx_protocol.specs.Nodes.{Setting, birth_of, is_anchor}
use Rattle.bmx_protocol.specs.Places.{no_places, owner_places, with_told}
use Rattle.bmx_memory.specs.Shown.{Shown}
use Rattle.bmx_protocol.specs.Steps.{first_node}
use Rattle.bmx_node.specs.declared.holdings.Holdings.{Holdings}
use Rattle.bmx_node.specs.Seen.{node_of, Suits}
use Rattle.bmx_node.specs.Inside.Keeping.{Keeps}
use Rattle.bmx_node.specs.Inside.Births.{heard_object}

-- what another node shows at first: it has heard of the anchors
abbrev pub heard_memory : ℕ → Setting → Shown
heard_memory me st = record {
  me = me;
  limit = st.limit;
  object = λ name. if is_anchor st name then option_map heard_object (birth_of st name) else None;
  places = with_told (owner_places st) no_places (filter (λ b. is_anchor st b.name) st.births);
  register = λ r. val.Null;
}

-- what a node has as the store opens
pub record Opens (st : Setting) (me : ℕ) (h : Holdings) : Type 0 where
  pub node : node_of h ≡ first_node st me
  pub is_me : h.me ≡ me
  pub suits : Suits st h
  pub keeps : Keeps h
  pub few : h.made ≤ h.clock + 320000
