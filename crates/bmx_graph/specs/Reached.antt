-- Which names are reached in the graph.
use Rattle.std.specs.Prelude.{◌≡◌, ℕ, ◌<◌, pos, List, [], ◌∷◌, Contains, refl}
use Rattle.std.proofs.Common.{lit<}
use Rattle.bmx_types.specs.Words.{anchor_of}
use Rattle.bmx_types.specs.declared.values.Val.{Val}
use Rattle.bmx_types.specs.declared.values.Val.TheVariants as val
use Rattle.bmx_types.specs.declared.openings.Birth.{Birth}
use Rattle.bmx_graph.specs.State.{State, fields_of, opening_state}
use Rattle.bmx_types.specs.Updates.{put_at}

-- x is reached with so many nodes and bunches: from a register of a node, as an anchor, or from the
-- fields of an object that is reached
pub data IsReached (nodes bunches : ℕ) (s : State) : ℕ → Type 0 where
  InRegister : {x : ℕ} (n r : ℕ) → n < nodes → r < 16 → s.register n r ≡ val.Ref x → IsReached nodes bunches s x
  Anchor : (bunch : ℕ) → bunch < bunches → IsReached nodes bunches s (anchor_of bunch)
  InField : {y : ℕ} (x : ℕ) → IsReached nodes bunches s x → Contains (fields_of s x) (val.Ref y) → IsReached nodes bunches s y

-- ## worked by hand

-- an object with these fields
abbrev pub born : ℕ → List Val → Birth
born name fields = record { name = name; bunch = 0; fields = fields }

-- the anchor 1 refers to 2, 2 and 3 refer to each other, and 3 to 7, which is no object; 4 refers to 5,
-- and 5 to 3
abbrev pub a_ring : State
a_ring = opening_state (
    born 1 (val.Null ∷ val.Ref 2 ∷ []) ∷ born 2 (val.Ref 3 ∷ []) ∷ born 3 (val.Int (pos 5) ∷ val.Ref 2 ∷ val.Ref 7 ∷ [])
    ∷ born 4 (val.Ref 5 ∷ []) ∷ born 5 (val.Ref 3 ∷ []) ∷ [])

-- the same, and the last register of the last node refers to 4
abbrev pub a_ring_and_a_register : State
a_ring_and_a_register = record a_ring { register = put_at a_ring.register 7 15 (val.Ref 4) }

the_anchor : IsReached 8 1 a_ring 1
the_anchor = Anchor 0 (lit< tt)

in_the_ring : IsReached 8 1 a_ring 3
in_the_ring = InField 2 (InField 1 the_anchor (1, lit< tt, refl)) (0, lit< tt, refl)

round_the_ring : IsReached 8 1 a_ring 2
round_the_ring = InField 3 in_the_ring (1, lit< tt, refl)

a_name_without_an_object : IsReached 8 1 a_ring 7
a_name_without_an_object = InField 3 in_the_ring (2, lit< tt, refl)

from_the_last_register : IsReached 8 1 a_ring_and_a_register 5
from_the_last_register = InField 4 (InRegister 7 15 (lit< tt) (lit< tt) refl) (0, lit< tt, refl)
