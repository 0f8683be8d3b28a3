-- The window of a collection: the node at each moment from just before the collection begins to just before it is
-- finished, and what is reached in it. A collection keeps what is reached just before it is finished, and nothing that
-- wasn't reached in its window.
use Rattle.std.specs.Prelude.{◌≡◌, refl, ℕ, ◌==◌, true, if◌then◌else◌, List, [], ◌∷◌, Contains, Some, None}
use Rattle.bmx_types.specs.declared.values.Val.TheVariants as val
use Rattle.bmx_token.specs.Tokens.{owner_part}
use Rattle.bmx_protocol.specs.declared.views.ViewField.{ViewField}
use Rattle.bmx_protocol.specs.declared.views.ViewField.TheVariants as field
use Rattle.bmx_protocol.specs.Places.{no_places}
use Rattle.bmx_collection.specs.Links.{no_links}
use Rattle.bmx_collection.specs.Reach.{is_entry, refers, IsRoot, IsAnchor}
use Rattle.bmx_collection.specs.Steps.{LinkedNode}
use Rattle.std.proofs.Common.{lit<}

-- a name is reached in a window: at one of its moments it is an entry of the bunch, and then a root, or in a field of the
-- copy of one that is reached in the window
pub data IsReachedIn (window : List LinkedNode) (bunch : ℕ) : ℕ → Type 0 where
  RootThen : {name : ℕ} (n : LinkedNode) → Contains window n → is_entry n.state bunch name ≡ true → IsRoot n.state n.links bunch name →
      IsReachedIn window bunch name
  InFieldThen : {name : ℕ} (n : LinkedNode) (from : ℕ) → Contains window n → is_entry n.state bunch name ≡ true → IsReachedIn window bunch from →
      refers n.state from name ≡ true → IsReachedIn window bunch name

-- of a collection in one event the only moment is the one before it
abbrev pub window_of_one : LinkedNode → List LinkedNode
window_of_one n = n ∷ []

-- ## cases

-- a node with the anchor 1 of bunch 0, which has one field, and 2
with_anchor : ViewField → LinkedNode
with_anchor f = record {
  state = record {
    known = λ x.
        if x == 1 then Some (record { bunch = 0; size = 1; copy = Some (f ∷ []); part = owner_part })
        else (if x == 2 then Some (record { bunch = 0; size = 0; copy = Some []; part = owner_part }) else None);
    register = λ r. val.Null;
    entering = λ x m. None;
    issued = λ m. 0;
    taken = λ m. 0;
    clock = 0;
    made = 2;
  };
  links = no_links;
  places = no_places;
}

-- the anchor refers to 2 as the collection begins, and no more as it is finished: 2 is in the window
abbrev two_moments : List LinkedNode
two_moments = with_anchor (field.Ref 2) ∷ with_anchor field.Null ∷ []

in_a_field_at_first : IsReachedIn two_moments 0 2
unfolding with_anchor
in_a_field_at_first =
    InFieldThen (with_anchor (field.Ref 2)) 1 (0, lit< tt, refl) refl (RootThen (with_anchor field.Null) (1, lit< tt, refl) refl (IsAnchor refl)) refl
