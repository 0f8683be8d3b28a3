-- How a mark is kept: one map of all marked names in the order of marking, and two lists of their keys.
use Rattle.std.specs.Prelude.{◌≡◌, ℕ, ◌≤◌, List, [], ◌∷◌, length, take, drop}
use Rattle.bmx_ilist.specs.Sequences.{Sequences, HasEachOnce}
use Rattle.bmx_mark.specs.Marks.{names_in, keys_in, AreListed}

-- the first so many names aren't grey any more; both kinds have their keys on their list, no other key lives,
-- and there is room for as many more as `spare` says
pub record IsMark (s : Sequences) (entries : List (ℕ × ℕ)) (room scanned spare : ℕ) : Type 0 where
  pub lists : s.lists ≡ keys_in (drop scanned entries) ∷ keys_in (take scanned entries) ∷ []
  pub listed : AreListed s
  pub within : scanned ≤ length entries
  pub names : HasEachOnce (names_in entries)
  pub keys : HasEachOnce (keys_in entries)
  pub keys_room : spare ≤ s.spare
  pub names_room : spare ≤ room
