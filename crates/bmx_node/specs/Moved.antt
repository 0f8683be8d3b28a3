-- How often objects have moved.
use Rattle.std.specs.Prelude.{◌≡◌, ℕ, ◌≤◌, Some}
use Rattle.bmx_types.specs.declared.addresses.Place.{Place}
use Rattle.bmx_protocol.specs.Places.{Places}

-- no object has moved more often than that
abbrev pub MovedAtMost : ℕ → Places → Type 0
MovedAtMost top a = (name : ℕ) (p : Place) → a.place name ≡ Some p → p.moves ≤ top
