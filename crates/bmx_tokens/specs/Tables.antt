-- The tokens that a node has, by name.
use Rattle.std.specs.Prelude.{◌≡◌, ℕ, ◌==◌, ◌↔◌, Contains, Bool, true, false, if◌then◌else◌, List, [], ◌∷◌, Option, Some, None, unwrap_or, refl}
use Rattle.std.specs.Option.{option_map_or}
use Rattle.std.specs.List.Sorted.{IsStrictlyIncreasing}
use Rattle.bmx_types.specs.Updates.{put}
use Rattle.bmx_types.specs.declared.numbers.Mode.TheVariants.{Write}
use Rattle.bmx_token.specs.declared.parts.Part.{Part}
use Rattle.bmx_token.specs.Tokens.{owner_part}
use Rattle.bmx_token.specs.Transitions.{can_serve}

-- what contracts see: the node, each name with its token, the names that can be served, and for how many more
-- names there is room
pub record Table : Type 0 where
  pub me : ℕ
  pub parts : List (ℕ × Part)
  pub servable : List ℕ
  pub spare : ℕ

-- the token of a name, None where it has none
abbrev pub part_in : List (ℕ × Part) → ℕ → Option Part
part_in [] name = None
part_in (e ∷ es) name = if name == e.0 then Some e.1 else part_in es name

abbrev pub part_of : Table → ℕ → Option Part
part_of t name = part_in t.parts name

-- the token of a name that has one
abbrev pub part_at : Table → ℕ → Part
part_at t name = unwrap_or (part_of t name) owner_part

-- the queue of a name can be served at a node
abbrev pub is_served_at : ℕ → List (ℕ × Part) → ℕ → Bool
is_served_at me parts name = option_map_or (can_serve me) (part_in parts name) false

-- the names that can be served are listed by rising name, each once
pub record IsIndexed (t : Table) : Type 0 where
  pub rises : IsStrictlyIncreasing t.servable
  pub exact : (x : ℕ) → Contains t.servable x ↔ (is_served_at t.me t.parts x ≡ true)

-- the token of a name becomes this, and each other stays
pub record Becomes (old new : Table) (name : ℕ) (p : Part) : Type 0 where
  pub part : part_of new ≡ put (part_of old) name (Some p)
  pub me : new.me ≡ old.me
  pub spare : new.spare ≡ old.spare

-- ## cases

-- node 0 owns 5, which node 1 asks to write, and 7, for which nobody asks
abbrev pub asked : Part
asked = record owner_part { queue = record { asker = 1; mode = Write } ∷ [] }

abbrev pub two_names : Table
two_names = record { me = 0; parts = (7, owner_part) ∷ (5, asked) ∷ []; servable = 5 ∷ []; spare = 0 }

one_is_found : part_of two_names 5 ≡ Some asked
one_is_found = refl

another_is_unknown : part_of two_names 6 ≡ None
another_is_unknown = refl

who_is_asked_can_serve : is_served_at 0 two_names.parts 5 ≡ true
who_is_asked_can_serve = refl

nobody_asks_for_the_other : is_served_at 0 two_names.parts 7 ≡ false
nobody_asks_for_the_other = refl

what_is_unknown_is_not_served : is_served_at 0 two_names.parts 6 ≡ false
what_is_unknown_is_not_served = refl
