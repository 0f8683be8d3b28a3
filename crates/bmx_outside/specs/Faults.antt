-- How the faults of the outside are counted.
use Rattle.std.specs.Prelude.{◌≡◌, ℕ, ◌+◌, ◌-◌, ◌^◌, ◌≤◌, min, refl}

-- one more than a count; a count stands still at the end of its type
abbrev pub one_more : ℕ → ℕ
one_more count = min (count + 1) (2 ^ 64 - 1)

-- the count rose from before to now, or stands at the end of its type
abbrev pub Rose : ℕ → ℕ → Type 0
Rose before now = one_more before ≤ now

-- a count below the end of its type goes up by one
one_more_below_end : one_more 4 ≡ 5
one_more_below_end = refl

-- at the end of its type it stands still
one_more_at_end : one_more (2 ^ 64 - 1) ≡ 2 ^ 64 - 1
one_more_at_end = refl
