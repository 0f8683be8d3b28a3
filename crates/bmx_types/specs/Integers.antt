-- The integers that a field can hold.
use Rattle.std.specs.Prelude.{◌-◌, ◌^◌, ℤ, pos, negsuc, int_le, Bool, ◌&&◌}

-- an integer of 64 bits, with a sign
abbrev pub is_i64 : ℤ → Bool
is_i64 k = int_le (negsuc (2 ^ 63 - 1)) k && int_le k (pos (2 ^ 63 - 1))
