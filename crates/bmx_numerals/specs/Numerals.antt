-- Numbers as a script and its output spell them: one spelling for each number.
use Rattle.std.specs.Prelude.{◌≡◌, ℕ, ◌+◌, ◌-◌, ◌==◌, nat_le, Bool, false, not, ◌&&◌, ℤ, pos, negsuc, if◌then◌else◌, List, [], ◌∷◌, map, codes, Option, Some, None, option_map, refl}
use Rattle.std.specs.Int.Digits.{digits_of}
use Rattle.std.specs.List.{list_all}
use Rattle.std.specs.Str.Parse.{digits_value}

-- the bytes of digits, from that of `0` to that of `9`
abbrev pub digit_0 : ℕ
digit_0 = 48

abbrev pub digit_9 : ℕ
digit_9 = 57

-- the byte of `-`
abbrev pub minus : ℕ
minus = 45

-- a number in decimal digits, with no zero in front
abbrev pub numeral : ℕ → List ℕ
numeral n = if n == 0 then digit_0 ∷ [] else map (λ d. digit_0 + d) (digits_of 10 n)

-- an integer, with `-` before a negative one
abbrev pub signed_numeral : ℤ → List ℕ
signed_numeral (pos n) = numeral n
signed_numeral (negsuc n) = minus ∷ numeral (n + 1)

-- the byte of a decimal digit
abbrev pub is_digit : ℕ → Bool
is_digit c = nat_le digit_0 c && nat_le c digit_9

-- one digit, or digits of which the first is not `0`
abbrev pub is_numeral : List ℕ → Bool
is_numeral [] = false
is_numeral (c ∷ []) = is_digit c
is_numeral (c ∷ (d ∷ ds)) = not (c == digit_0) && list_all is_digit (c ∷ (d ∷ ds))

-- the number that a word spells, if it spells one
abbrev pub number_in : List ℕ → Option ℕ
number_in word = if is_numeral word then Some (digits_value 10 word) else None

-- the negative of a number; nothing spells that of 0, which has no `-`
abbrev pub negative_of : ℕ → Option ℤ
negative_of n = if n == 0 then None else Some (negsuc (n - 1))

-- the negative of the number that a word spells, if it spells one
abbrev pub negative_in : Option ℕ → Option ℤ
negative_in None = None
negative_in (Some n) = negative_of n

-- the integer that a word spells, if it spells one: `-` and a number, or a number
abbrev pub integer_in : List ℕ → Option ℤ
integer_in [] = None
integer_in (c ∷ cs) = if c == minus then negative_in (number_in cs) else option_map pos (number_in (c ∷ cs))

zero_is_one_digit : numeral 0 ≡ codes "0"
zero_is_one_digit = refl

digits_in_order : numeral 20001 ≡ codes "20001"
digits_in_order = refl

a_negative_integer : signed_numeral (negsuc 41) ≡ codes "-42"
a_negative_integer = refl

a_number_is_read : number_in (codes "420") ≡ Some 420
a_number_is_read = refl

zero_is_read : number_in (codes "0") ≡ Some 0
zero_is_read = refl

no_zero_in_front : number_in (codes "042") ≡ None
no_zero_in_front = refl

nothing_is_no_number : number_in [] ≡ None
nothing_is_no_number = refl

a_negative_is_read : integer_in (codes "-42") ≡ Some (negsuc 41)
a_negative_is_read = refl

no_minus_zero : integer_in (codes "-0") ≡ None
no_minus_zero = refl

one_minus_at_most : integer_in (codes "--1") ≡ None
one_minus_at_most = refl
