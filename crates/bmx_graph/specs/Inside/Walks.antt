-- What a walk over the graph has found, as its private functions go on with it.
use Rattle.std.specs.Prelude.{◌≡◌, ◌↔◌, ◌⊎◌, ℕ, List, Contains, Some, slice_get}
use Rattle.bmx_types.specs.declared.values.Val.{Val}
use Rattle.bmx_types.specs.declared.values.Val.TheVariants as val
use Rattle.bmx_graph.specs.declared.walks.Walk.{Walk}

-- the list and the set have the same names
abbrev pub IsWalk : Walk → Type 0
IsWalk w = (x : ℕ) → Contains w.seen.keys x ↔ Contains w.found.items x

-- a walk goes on to the names that values refer to: what it has found stays in its place, and what is
-- new is one of these names
pub record GoesTo (values : List Val) (v w : Walk) : Type 0 where
  pub walk : IsWalk w
  pub kept : (i x : ℕ) → slice_get v.found.items i ≡ Some x → slice_get w.found.items i ≡ Some x
  pub found : (x : ℕ) → Contains values (val.Ref x) → Contains w.found.items x
  pub only : (x : ℕ) → Contains w.found.items x → Contains v.found.items x ⊎ Contains values (val.Ref x)
