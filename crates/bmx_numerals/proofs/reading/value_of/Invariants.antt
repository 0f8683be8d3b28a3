use Rattle.std.proofs.Common.{◌≡◌, ◌<◌, ◌^◌, take}
use Rattle.std.specs.Str.Parse.{digits_value}
use Rattle.bmx_numerals.proofs.reading.value_of.Given as goal

-- the number is that of the digits so far
abbrev pub invariant-loop-byte : goal.invariant-loop-byte
invariant-loop-byte l = (l.number ≡ digits_value 10 (take l.byte-index l.word)) × (l.number < 2 ^ 64)
