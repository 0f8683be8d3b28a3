-- The bytes of a number are the only ones of that length that read as it.
use Rattle.std.proofs.Common.{◌≡◌, ℕ, zero, suc, ◌+◌, ◌*◌, ◌/◌, ◌%◌, ◌^◌, ◌<◌, ◌≤◌, List, [], ◌∷◌, ◌++◌, length, get_or, take, drop, refl, sym, ap, ◌∙◌, arith, inl, inr}
use Rattle.std.specs.Int.{byte_at, bytes_high_first}
use Rattle.std.proofs.Math.Nat.{mul_assoc, pow-succ', one-le-pow, div-one, mod-eq_of_lt, mul-add-mod_self_right, mul-add-div_right}
use Rattle.std.proofs.lemmas.Nat.{div-mul-add}
use Rattle.std.proofs.lemmas.List.{take-append-drop, length-take, get_or-take, get_or_past}
use Rattle.std.proofs.lemmas.Bool.{cases_lt}
use Rattle.byteorder.specs.Endian.{big_number, big_bytes, big_from}
use Rattle.byteorder.specs.Numbers.{big_from-cons, big_from-take, big_from-lt}

abbrev pub IsBytes : List ℕ → Type 0
IsBytes bytes = (i : ℕ) → get_or bytes i 0 < 256

IsBytes-take : (n : ℕ) (bytes : List ℕ) → IsBytes bytes → IsBytes (take n bytes)
IsBytes-take n bytes h i =
    elim (cases_lt i n) [
      | inl lt ↦ rw (get_or-take n bytes i 0 lt) (h i)
      | inr le ↦ rw (get_or_past (take n bytes) i 0 (omega (arith, length-take n bytes))) (omega arith)
    ]

byte_at-pow : (k x : ℕ) → byte_at k x ≡ x / 256 ^ k % 256
byte_at-pow zero x = ap (λ (y : ℕ). y % 256) (sym (div-one x))
byte_at-pow (suc k) x = refl

pow_above : (n : ℕ) → 0 < 256 ^ n
pow_above n = let h = one-le-pow n 256 (omega arith) in omega arith

-- what n bytes can't hold isn't seen in them
high_unseen : (n k y : ℕ) → bytes_high_first n (k * 256 ^ n + y) ≡ bytes_high_first n y
high_unseen zero k y = refl
high_unseen (suc n) k y =
    let regroup : k * 256 ^ suc n + y ≡ (k * 256) * 256 ^ n + y = ap (λ (p : ℕ). k * p + y) (pow-succ' 256 n) ∙ ap (λ (p : ℕ). p + y) (sym (mul_assoc k 256 (256 ^ n))) in
    let quotient : ((k * 256) * 256 ^ n + y) / 256 ^ n ≡ k * 256 + y / 256 ^ n = mul-add-div_right (pow_above n) (k * 256) y in
    let first : byte_at n ((k * 256) * 256 ^ n + y) ≡ byte_at n y =
    byte_at-pow n ((k * 256) * 256 ^ n + y) ∙ ap (λ (q : ℕ). q % 256) quotient ∙ mul-add-mod_self_right k 256 (y / 256 ^ n) ∙ sym (byte_at-pow n y) in
    let others = high_unseen n (k * 256) y in
    ap (bytes_high_first (suc n)) regroup ∙ ap (λ (b : ℕ). b ∷ bytes_high_first n ((k * 256) * 256 ^ n + y)) first ∙ ap (λ (bs : List ℕ). byte_at n y ∷ bs) others

pub number_has_one_spelling : (n : ℕ) (bytes : List ℕ) → length bytes ≡ n → IsBytes bytes → big_bytes n (big_number n bytes) ≡ bytes
number_has_one_spelling zero [] len fits = refl
number_has_one_spelling zero (b ∷ bytes) len fits = absurd (omega arith)
number_has_one_spelling (suc n) [] len fits = absurd (omega arith)
number_has_one_spelling (suc n) (b ∷ bytes) len fits =
    let others : IsBytes bytes = λ i. fits (suc i) in
    let y = big_from 0 n bytes in
    let small : y < 256 ^ n = big_from-lt 0 n bytes others in
    let byte : b < 256 = fits 0 in
    let value : big_from 0 (suc n) (b ∷ bytes) ≡ b * 256 ^ n + y = ap (λ (r : ℕ). b * 256 ^ n + r) (big_from-cons 0 n b bytes) in
    let first : byte_at n (b * 256 ^ n + y) ≡ b = byte_at-pow n (b * 256 ^ n + y) ∙ ap (λ (q : ℕ). q % 256) (div-mul-add b (256 ^ n) y small) ∙ mod-eq_of_lt byte in
    let rest : bytes_high_first n (b * 256 ^ n + y) ≡ bytes = high_unseen n b y ∙ number_has_one_spelling n bytes (omega arith) others in
    ap (bytes_high_first (suc n)) value ∙ ap (λ (x : ℕ). x ∷ bytes_high_first n (b * 256 ^ n + y)) first ∙ ap (λ (bs : List ℕ). b ∷ bs) rest

-- a number at the start of bytes, and what is behind it
pub number_parts : (n : ℕ) (bytes : List ℕ) → n ≤ length bytes → IsBytes bytes → bytes ≡ big_bytes n (big_number n bytes) ++ drop n bytes
number_parts n bytes le fits =
    let front : big_bytes n (big_number n bytes) ≡ take n bytes =
    ap (big_bytes n) (sym (big_from-take 0 n n bytes (omega arith))) ∙ number_has_one_spelling n (take n bytes) (omega (arith, length-take n bytes)) (IsBytes-take n bytes fits) in
    sym (take-append-drop n bytes) ∙ ap (λ (t : List ℕ). t ++ drop n bytes) (sym front)
