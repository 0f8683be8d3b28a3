-- What reading a word as a value in a range comes to.
use Rattle.std.specs.Prelude.{◌≡◌, ℕ, nat_le, nat_lt, Bool, ◌&&◌, ℤ, negsuc, if◌then◌else◌, List, codes, Option, Some, None, Result, Ok, Err, refl}
use Rattle.bmx_types.specs.Integers.{is_i64}
use Rattle.bmx_numerals.specs.Numerals.{number_in, integer_in}
use Rattle.bmx_numerals.specs.declared.words.Misfit.{Misfit}
use Rattle.bmx_numerals.specs.declared.words.Misfit.TheVariants.{Form, Range}

-- what a value that was read, or none, comes to where those that pass a test are wanted
abbrev pub tested : {A : Type 0} → (A → Bool) → Option A → Result A Misfit
tested passes None = Err Form
tested passes (Some x) = if passes x then Ok x else Err Range

-- what a word comes to as a number below a limit
abbrev pub read_below : ℕ → List ℕ → Result ℕ Misfit
read_below limit word = tested (λ n. nat_lt n limit) (number_in word)

-- what a word comes to as a number from `low` to `high`
abbrev pub read_within : ℕ → ℕ → List ℕ → Result ℕ Misfit
read_within low high word = tested (λ n. nat_le low n && nat_le n high) (number_in word)

-- what a word comes to as an integer of 64 bits
abbrev pub read_integer : List ℕ → Result ℤ Misfit
read_integer word = tested is_i64 (integer_in word)

-- two readings as one: the form of both is looked at before either range
abbrev pub read_both : {A B : Type 0} → Result A Misfit → Result B Misfit → Result (A × B) Misfit
read_both (Err Form) other = Err Form
read_both (Err Range) (Err Form) = Err Form
read_both (Err Range) (Err Range) = Err Range
read_both (Err Range) (Ok y) = Err Range
read_both (Ok x) (Err why) = Err why
read_both (Ok x) (Ok y) = Ok (x, y)

below_the_limit : read_below 8 (codes "7") ≡ Ok 7
below_the_limit = refl

at_the_limit : read_below 8 (codes "8") ≡ Err Range
at_the_limit = refl

no_number_at_all : read_below 8 (codes "+7") ≡ Err Form
no_number_at_all = refl

the_ends_are_within : read_both (read_within 1 8 (codes "1")) (read_within 1 8 (codes "8")) ≡ Ok (1, 8)
the_ends_are_within = refl

form_before_range : read_both (read_below 8 (codes "9")) (read_integer (codes "-0")) ≡ Err Form
form_before_range = refl

zero_is_too_low : read_within 1 8 (codes "0") ≡ Err Range
zero_is_too_low = refl

the_lowest_integer : read_integer (codes "-9223372036854775808") ≡ Ok (negsuc 9223372036854775807)
the_lowest_integer = refl

one_lower : read_integer (codes "-9223372036854775809") ≡ Err Range
one_lower = refl

one_above_the_highest : read_integer (codes "9223372036854775808") ≡ Err Range
one_above_the_highest = refl
