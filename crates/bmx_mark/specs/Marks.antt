-- The names that a collection has marked, grey ones and others: what contracts see of a mark.
use Rattle.std.specs.Prelude.{◌≡◌, ℕ, ◌+◌, Bool, ◌||◌, ◌==◌, if◌then◌else◌, List, [], ◌∷◌, ◌++◌, map, length, take, drop, slice_index_or, Option, Some, None, IsTrue, IsFalse, refl}
use Rattle.std.specs.List.{list_any}
use Rattle.std.specs.List.Sorted.{IsStrictlyIncreasing}
use Rattle.std.specs.FinSet as set
use Rattle.bmx_ilist.specs.Sequences.{Sequences, is_in_list, HasEachOnce}

-- grey names, the one that has been grey longest first, and the other marked ones in the order in which
-- they ceased to be grey, each name with its key; and how many more names can be marked without memory
pub record Marking : Type 0 where
  pub grey : List (ℕ × ℕ)
  pub scanned : List (ℕ × ℕ)
  pub spare : ℕ

-- the names, and the keys, of names with keys
abbrev pub names_in : List (ℕ × ℕ) → List ℕ
names_in entries = map (λ e. e.0) entries

abbrev pub keys_in : List (ℕ × ℕ) → List ℕ
keys_in entries = map (λ e. e.1) entries

-- the name is among these
abbrev pub has_name : List ℕ → ℕ → Bool
has_name names name = list_any (λ x. x == name) names

-- the name is marked
abbrev pub is_marked : Marking → ℕ → Bool
is_marked m name = has_name (names_in m.scanned) name || has_name (names_in m.grey) name

-- the key of a name among names with keys
abbrev pub key_in : List (ℕ × ℕ) → ℕ → Option ℕ
key_in [] name = None
key_in (e ∷ es) name = if name == e.0 then Some e.1 else key_in es name

-- the key of a marked name
abbrev pub key_of : Marking → ℕ → Option ℕ
key_of m name = key_in (m.scanned ++ m.grey) name

-- the name that has been grey longest
abbrev pub next_grey : Marking → ℕ
next_grey m = slice_index_or (names_in m.grey) 0 0

-- no name is marked twice, and different names have different keys
pub record AreApart (m : Marking) : Type 0 where
  pub names : HasEachOnce (names_in (m.scanned ++ m.grey))
  pub keys : HasEachOnce (keys_in (m.scanned ++ m.grey))

-- each key that lives is on a list
abbrev pub AreListed : Sequences → Type 0
AreListed s = (key : ℕ) → IsTrue (set.contains s.live key) → IsTrue (is_in_list s.lists key)

-- a field of x refers to y
abbrev pub IsTarget : (ℕ → ℕ → Option ℕ) → ℕ → ℕ → Type 0
IsTarget target x y = (i : ℕ) × (target x i ≡ Some y)

-- and y isn't marked
abbrev pub IsNewTarget : (ℕ → ℕ → Option ℕ) → Marking → ℕ → ℕ → Type 0
IsNewTarget target m x y = IsTarget target x y × IsFalse (is_marked m y)

-- rising names, each a target of x that isn't marked
pub record AreNewTargets (target : ℕ → ℕ → Option ℕ) (m : Marking) (x : ℕ) (names : List ℕ) : Type 0 where
  pub rising : IsStrictlyIncreasing names
  pub each : (y : ℕ) → IsTrue (has_name names y) → IsNewTarget target m x y

-- a name that wasn't marked is grey now, behind all others
pub record Greys (name : ℕ) (old new : Marking) : Type 0 where
  pub key : ℕ
  pub grey : new.grey ≡ old.grey ++ (name, key) ∷ []
  pub scanned : new.scanned ≡ old.scanned
  pub spare : new.spare + 1 ≡ old.spare

-- the name that was grey longest isn't grey any more, and each of its targets that wasn't marked is now
-- grey, behind all others and by rising name
pub record Scans (target : ℕ → ℕ → Option ℕ) (old new : Marking) : Type 0 where
  pub added : List (ℕ × ℕ)
  pub grey : new.grey ≡ drop 1 old.grey ++ added
  pub scanned : new.scanned ≡ old.scanned ++ take 1 old.grey
  pub spare : new.spare + length added ≡ old.spare
  pub targets : AreNewTargets target old (next_grey old) (names_in added)
  pub all : (y : ℕ) → IsNewTarget target old (next_grey old) y → IsTrue (has_name (names_in added) y)

-- 2 is scanned under key 0 and 5 grey under key 1
a_mark : Marking
a_mark = record { grey = (5, 1) ∷ []; scanned = (2, 0) ∷ []; spare = 3 }

marked_names : (IsTrue (is_marked a_mark 2)) × (IsTrue (is_marked a_mark 5)) × (IsFalse (is_marked a_mark 3))
unfolding a_mark
marked_names = (refl, refl, refl)

keys_of_names : (key_of a_mark 5 ≡ Some 1) × (key_of a_mark 3 ≡ None) × (next_grey a_mark ≡ 5)
unfolding a_mark
keys_of_names = (refl, refl, refl)
