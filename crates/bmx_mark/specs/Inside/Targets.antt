-- The least target above a floor.
use Rattle.std.specs.Prelude.{◌≡◌, ℕ, ◌<◌, ◌≤◌, Bool, true, ◌&&◌, nat_lt, if◌then◌else◌, Option, Some, None, IsTrue}

-- y is above the floor, if there is one
abbrev pub is_above : Option ℕ → ℕ → Bool
is_above None y = true
is_above (Some floor) y = nat_lt floor y

-- y is below the least one so far, if there is one
abbrev pub is_below : Option ℕ → ℕ → Bool
is_below None y = true
is_below (Some least) y = nat_lt y least

-- the least one once another is looked at
abbrev pub lower : Option ℕ → Option ℕ → Option ℕ → Option ℕ
lower floor least None = least
lower floor least (Some y) = if is_above floor y && is_below least y then Some y else least

-- the least of the first n targets that is above the floor, None where none is
abbrev pub IsLeast : (ℕ → Option ℕ) → ℕ → Option ℕ → Option ℕ → Type 0
IsLeast target n floor None = (i y : ℕ) → i < n → target i ≡ Some y → IsTrue (is_above floor y) → ⊥
IsLeast target n floor (Some y) =
    ((i : ℕ) × (i < n) × (target i ≡ Some y)) × IsTrue (is_above floor y)
    × ((i z : ℕ) → i < n → target i ≡ Some z → IsTrue (is_above floor z) → y ≤ z)
