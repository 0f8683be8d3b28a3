-- Items on numbered shelves.
use Rattle.std.specs.Prelude.{ℕ, List, [], slice_index_or}

-- what contracts see: the items of each shelf, first to last, and for how many more there is room
pub record Shelved (T : Type 0) : Type 0 where
  pub shelves : List (List T)
  pub spare : ℕ

-- the items of the shelf of that number, none where there is no such shelf
abbrev pub on_shelf : {T : Type 0} → List (List T) → ℕ → List T
on_shelf shelves m = slice_index_or shelves m []
