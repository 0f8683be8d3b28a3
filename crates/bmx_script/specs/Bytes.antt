-- The bytes that mean something by themselves.
use Rattle.std.specs.Prelude.{ℕ}

-- between two words
abbrev pub space : ℕ
space = 32

-- behind a line
abbrev pub line_feed : ℕ
line_feed = 10

-- `#`, before a comment
abbrev pub hash : ℕ
hash = 35

-- `r`, before a register's number
abbrev pub letter_r : ℕ
letter_r = 114

-- `@`, before the bunch of an anchor
abbrev pub at_sign : ℕ
at_sign = 64

-- `.`, between the parts of a name
abbrev pub point : ℕ
point = 46

abbrev pub underscore : ℕ
underscore = 95

abbrev pub letter_a : ℕ
letter_a = 97

abbrev pub letter_z : ℕ
letter_z = 122
