-- What a collection of a bunch has to keep at a node: the least set that has the roots there and, with an object,
-- those of the bunch to which its copy refers.
use Rattle.std.specs.Prelude.{None, ◌≡◌, refl, [], ◌∷◌, if◌then◌else◌, ℕ, ◌<◌, ◌==◌, ◌&&◌, ◌||◌, not, nat_lt, Bool, true, false, List, length, Contains, Some, is_some}
use Rattle.std.specs.Option.{option_map_or}
use Rattle.std.specs.List.{list_any}
use Rattle.bmx_types.specs.Words.{anchor_of}
use Rattle.bmx_types.specs.declared.values.Val.TheVariants as val
use Rattle.bmx_token.specs.declared.parts.Part.{Part}
use Rattle.bmx_token.specs.Tokens.{parent_of}
use Rattle.bmx_owner.specs.declared.entering.Record.{Record}
use Rattle.bmx_inter.specs.declared.inter.Scion.{Scion}
use Rattle.bmx_protocol.specs.declared.views.ViewField.{ViewField}
use Rattle.bmx_protocol.specs.declared.views.ViewField.TheVariants as field
use Rattle.bmx_protocol.specs.Nodes.{NodeState, Known}
use Rattle.bmx_collection.specs.Links.{Links, no_links}
use Rattle.std.proofs.Common.{lit<}
use Rattle.bmx_types.specs.declared.numbers.Mode.TheVariants as mode
use Rattle.bmx_token.specs.Tokens.{owner_part, child_part}

-- ## entries

-- what is known passes a test
abbrev pub is_known_as : (Known → Bool) → NodeState → ℕ → Bool
is_known_as test s name = option_map_or test (s.known name) false

-- the node has an entry of the name, an object of the bunch
abbrev pub is_entry : NodeState → ℕ → ℕ → Bool
is_entry s bunch name = is_known_as (λ k. k.bunch == bunch) s name

-- and it owns it
abbrev pub is_owned : NodeState → ℕ → ℕ → Bool
is_owned s bunch name = is_known_as (λ k. k.bunch == bunch && not (is_some (parent_of k.part.role))) s name

-- and it would ask that node for it
abbrev pub is_child : NodeState → ℕ → ℕ → ℕ → Bool
is_child s bunch parent name = is_known_as (λ k. k.bunch == bunch && option_map_or (λ n. n == parent) (parent_of k.part.role) false) s name

-- ## references

-- a field refers to the object of a name
abbrev pub is_reference_to : ℕ → ViewField → Bool
is_reference_to name field.Null = false
is_reference_to name (field.Int k) = false
is_reference_to name (field.Ref other) = other == name

-- the node's copy of an object refers to a name
abbrev pub refers : NodeState → ℕ → ℕ → Bool
refers s from name = is_known_as (λ k. option_map_or (list_any (is_reference_to name)) k.copy false) s from

-- ## roots

-- something of a token is going on here: it is held or wanted, somebody asks or was told to give a copy up, or an
-- answer is due
abbrev pub is_busy : Part → Bool
is_busy p = is_some p.held || is_some p.want || is_some p.due || nat_lt 0 (length p.queue) || nat_lt 0 (length p.waiting)

-- a name is a root of the bunch: it is in a register or the anchor, its token is busy, a record says that another
-- node may refer to it, or a scion that an object of another bunch does
pub data IsRoot (s : NodeState) (l : Links) (bunch name : ℕ) : Type 0 where
  InRegister : (r : ℕ) → r < 16 → s.register r ≡ val.Ref name → IsRoot s l bunch name
  IsAnchor : name ≡ anchor_of bunch → IsRoot s l bunch name
  IsBusy : (k : Known) → s.known name ≡ Some k → is_busy k.part ≡ true → IsRoot s l bunch name
  IsRecorded : (node : ℕ) (r : Record) → s.entering name node ≡ Some r → IsRoot s l bunch name
  HasScion : (c : Scion) → Contains l.scions c → c.target ≡ name → IsRoot s l bunch name

-- ## reach

-- a name is reached here: it is an entry of the bunch, and a root or in a field of the copy of one that is reached
pub data IsReachedHere (s : NodeState) (l : Links) (bunch : ℕ) : ℕ → Type 0 where
  Root : {name : ℕ} → is_entry s bunch name ≡ true → IsRoot s l bunch name → IsReachedHere s l bunch name
  InField : {name : ℕ} (from : ℕ) → is_entry s bunch name ≡ true → IsReachedHere s l bunch from → refers s from name ≡ true →
      IsReachedHere s l bunch name

-- names may be kept: the roots are among them and, with a name, the names of the bunch to which its copy refers. What
-- was reached here is the least such set, and a collection in one event keeps it; one in steps may keep more
pub record MayBeKept (s : NodeState) (l : Links) (bunch : ℕ) (kept : List ℕ) : Type 0 where
  pub rooted : (name : ℕ) → is_entry s bunch name ≡ true → IsRoot s l bunch name → Contains kept name
  pub closed : (from name : ℕ) → Contains kept from → is_entry s bunch name ≡ true → refers s from name ≡ true → Contains kept name

-- ## cases

-- each of these is busy by itself; a token at rest isn't, also where others read
busy_tokens :
    (is_busy (record owner_part { held = Some mode.Read }) ≡ true)
    × (is_busy (record owner_part { want = Some mode.Write }) ≡ true)
    × (is_busy (record (child_part 0) { due = Some 0 }) ≡ true)
    × (is_busy (record owner_part { queue = record { asker = 1; mode = mode.Read } ∷ [] }) ≡ true)
    × (is_busy (record owner_part { waiting = 1 ∷ [] }) ≡ true)
busy_tokens = (refl, refl, refl, refl, refl)

idle_tokens : (is_busy owner_part ≡ false) × (is_busy (child_part 0) ≡ false) × (is_busy (record owner_part { readers = 1 ∷ 2 ∷ [] }) ≡ false)
idle_tokens = (refl, refl, refl)

-- a node with the anchor 1 of bunch 0, which refers to 3, and 3 and 4 of bunch 0, and 5 of bunch 1, to which 3 refers;
-- node 1 was told of 4
object_with : ℕ → List ViewField → Known
object_with bunch fields = record { bunch = bunch; size = 2; copy = Some fields; part = owner_part }

a_node : NodeState
a_node = record {
  known = λ x.
      if x == 1 then Some (object_with 0 (field.Ref 3 ∷ field.Null ∷ []))
      else (if x == 3 then Some (object_with 0 (field.Null ∷ field.Ref 5 ∷ []))
      else (if x == 4 then Some (object_with 0 [])
      else (if x == 5 then Some (object_with 1 []) else None)));
  register = λ r. val.Null;
  entering = λ x m. if x == 4 && m == 1 then Some (record { name = 4; bunch = 0; from = 1; sent = 1; got = 0 }) else None;
  issued = λ m. 0;
  taken = λ m. 0;
  clock = 0;
  made = 5;
}

the_anchor_is_reached : IsReachedHere a_node no_links 0 1
unfolding a_node object_with
the_anchor_is_reached = Root refl (IsAnchor refl)

in_the_anchors_field : IsReachedHere a_node no_links 0 3
unfolding a_node object_with
in_the_anchors_field = InField 1 refl the_anchor_is_reached refl

by_its_record : IsReachedHere a_node no_links 0 4
unfolding a_node object_with
by_its_record = Root refl (IsRecorded 1 _ refl)

-- what 3 refers to in the other bunch is no entry of this one; a scion makes it a root of its own
not_of_this_bunch : is_entry a_node 0 5 ≡ false
unfolding a_node object_with
not_of_this_bunch = refl

by_its_scion : IsReachedHere a_node (record no_links { scions = record { target = 5; source = 3; bunch = 0; clock = 1 } ∷ [] }) 1 5
unfolding a_node object_with
by_its_scion = Root refl (HasScion (record { target = 5; source = 3; bunch = 0; clock = 1 }) (0, lit< tt, refl) refl)
