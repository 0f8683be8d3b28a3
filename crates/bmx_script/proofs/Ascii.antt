-- What is printed is ASCII.
use Rattle.std.proofs.Common.{◌≡◌, ℕ, ◌+◌, ◌-◌, ◌<◌, ℤ, pos, negsuc, true, nat_lt, List, [], ◌∷◌, ◌++◌, zero, suc, length, take, drop, refl, sym, ◌∙◌, subst, arith}
use Rattle.std.specs.Prelude.{IsUtf8, slice_index}
use Rattle.std.proofs.lemmas.Bool.{and_parts, and_from, lt-ltb, ltb-true}
use Rattle.std.proofs.lemmas.List.{length-drop, take_all}
use Rattle.std.proofs.lemmas.List.Folds.{list_all-append}
use Rattle.std.proofs.lemmas.Str.{IsUtf8-from_ascii}
use Rattle.bmx_numerals.specs.Numerals.{numeral, signed_numeral, is_digit}
use Rattle.bmx_numerals.proofs.NumeralLemmas.{is_digit_range, numeral_digits}
use Rattle.bmx_script.specs.Printing.{is_ascii}
use Rattle.bmx_script.proofs.Plain.{list_all_then}

digit_ascii : (c : ℕ) → is_digit c ≡ true → nat_lt c 128 ≡ true
digit_ascii c h = let range = is_digit_range c h in lt-ltb c 128 (omega (arith, range.1))

pub numeral_ascii : (n : ℕ) → is_ascii (numeral n) ≡ true
numeral_ascii n = list_all_then is_digit (λ c. nat_lt c 128) digit_ascii (numeral n) (numeral_digits n)

pub signed_numeral_ascii : (z : ℤ) → is_ascii (signed_numeral z) ≡ true
signed_numeral_ascii (pos n) = numeral_ascii n
signed_numeral_ascii (negsuc n) = and_from (nat_lt 45 128) (is_ascii (numeral (n + 1))) refl (numeral_ascii (n + 1))

-- ASCII behind ASCII
pub ascii_on : (all before behind : List ℕ) → all ≡ before ++ behind → is_ascii before ≡ true → is_ascii behind ≡ true → is_ascii all ≡ true
ascii_on all before behind is p q =
    subst (λ (x : List ℕ). is_ascii x ≡ true) (sym is)
    (list_all-append (λ c. nat_lt c 128) before behind ∙ and_from (is_ascii before) (is_ascii behind) p q)

below_at : (w : List ℕ) → is_ascii w ≡ true → (i : ℕ) → slice_index w i < 128
below_at [] h i = omega arith
below_at (c ∷ w) h zero = ltb-true c 128 (and_parts (nat_lt c 128) (is_ascii w) h).0
below_at (c ∷ w) h (suc i) = below_at w (and_parts (nat_lt c 128) (is_ascii w) h).1 i

pub ascii_utf8 : (w : List ℕ) → is_ascii w ≡ true → IsUtf8 w
ascii_utf8 w h = IsUtf8-from_ascii w (below_at w h)

-- the same of what begins at a place and goes to the end
pub ascii_rest : (bytes : List ℕ) (start n : ℕ) → length bytes ≡ n → is_ascii (drop start bytes) ≡ true → IsUtf8 (take (n - start) (drop start bytes))
ascii_rest bytes start n long h =
    subst (λ (x : List ℕ). IsUtf8 x) (sym (take_all (n - start) (drop start bytes) (omega (arith, length-drop start bytes)))) (ascii_utf8 (drop start bytes) h)
