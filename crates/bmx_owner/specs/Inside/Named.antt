-- How the names of records stand on shelves, one for each node, so that those from one node can be walked
-- alone.
use Rattle.std.specs.Prelude.{◌≡◌, ◌≢◌, ℕ, ◌+◌, ◌<◌, ◌≤◌, Bool, false, ◌&&◌, ◌==◌, if◌then◌else◌, List, [], length, count_by, Option, Some, None}
use Rattle.std.specs.Option.{option_map_or}
use Rattle.bmx_shelves.specs.Shelves.{Shelved, on_shelf}
use Rattle.bmx_owner.specs.declared.entering.Record.{Record}
use Rattle.bmx_owner.specs.Records.{IsInOrder, find_record, is_stale}

-- a table ends the record of the name and its maker
abbrev pub ends_name : ℕ → ℕ → ℕ → ℕ → List ℕ → List Record → ℕ → Bool
ends_name bunch node sent got listed records name = option_map_or (is_stale bunch node sent got listed) (find_record records name node) false

-- the shelves of other nodes are as they were
abbrev pub AreElsewhere : ℕ → List (List ℕ) → List (List ℕ) → Type 0
AreElsewhere node old new = (m : ℕ) → m ≢ node → on_shelf new m ≡ on_shelf old m

-- a node's shelf has the names of its records, each as often
abbrev pub AreNamed : List Record → List (List ℕ) → Type 0
AreNamed list shelves = (m : ℕ) → m < 8 → (p : ℕ → Bool) → count_by p (on_shelf shelves m) ≡ count_by (λ r. r.from == m && p r.name) list

-- the shelves have the names of the records, and room for so many more
pub record OnShelves (list : List Record) (room : ℕ) (s : Shelved ℕ) : Type 0 where
  pub count : length s.shelves ≡ 9
  pub seen : on_shelf s.shelves 8 ≡ []
  pub roomy : room ≤ s.spare
  pub named : AreNamed list s.shelves

-- as long as there are no shelves there is no record and no room
abbrev pub AreShelved : List Record → ℕ → Option (Shelved ℕ) → Type 0
AreShelved list room None = (list ≡ []) × (room ≡ 0)
AreShelved list room (Some s) = OnShelves list room s

-- the list has one more
abbrev pub HasOneMore : Record → List Record → List Record → Type 0
HasOneMore r old new = (p : Record → Bool) → count_by p new ≡ count_by p old + (if p r then 1 else 0)

-- the list has as many of each kind that goes by name and node
abbrev pub HasTheSame : List Record → List Record → Type 0
HasTheSame old new = (m : ℕ) (p : ℕ → Bool) → count_by (λ r. r.from == m && p r.name) new ≡ count_by (λ r. r.from == m && p r.name) old

-- what the records, their memory and their shelves keep
pub record Kept (list : List Record) (len capacity room : ℕ) (names : Option (Shelved ℕ)) : Type 0 where
  pub order : IsInOrder list
  pub fits : len + room ≤ capacity
  pub shelved : AreShelved list room names
