-- One more bit among those that say where headers begin.
use Rattle.std.proofs.Common.{◌≡◌, ◌≢◌, ℕ, ◌+◌, ◌-◌, ◌*◌, ◌/◌, ◌%◌, ◌^◌, ◌<◌, ◌≤◌, true, false, List, length, arith, eq-eqb, sym, ap, ◌∙◌, inl, inr}
use Rattle.std.proofs.lemmas.Bool.{cases_eq, cases_lt, false≢true}
use Rattle.std.proofs.lemmas.Nat.{pow_pos, pow-add, shr-shr, div_below, mod_below}
use Rattle.std.proofs.Math.Nat.{mul-le-mul_left}
use Rattle.std.proofs.lemmas.List.{get_or-set_same, get_or-set_other}
use Rattle.std.proofs.lemmas.Nat.Bits.{bit_at_set_same, bit_at_set_other, bit_at_or, bit_at_above, bit_at_cat_low, bit_at_cat_high, bit_at-zero, bit_at-trailing_zeros}
use Rattle.std.specs.Int.{w64, bit_at, trailing_zeros}
use Rattle.std.specs.Prelude.{slice_index, ◌==◌, bit_or, max}
use Rattle.bmx_segment.specs.Blocks.{is_start, starts_with}

-- the bit itself is set
pub is_start-with_same : (starts : List ℕ) (i : ℕ) → i < 1024 → length starts ≡ 16 → is_start (starts_with starts i) i ≡ true
is_start-with_same starts i below sixteen =
    let within : i / 64 < length starts = omega arith in
    let rest : i % 64 < 64 = omega arith in
    rw get_or-set_same (eq-eqb _ 1 (bit_at_set_same w64 (slice_index starts (i / 64)) (i % 64) rest))

-- and no other changes
pub is_start-with_other : (starts : List ℕ) (i j : ℕ) → i < 1024 → length starts ≡ 16 → j ≢ i → is_start (starts_with starts i) j ≡ is_start starts j
is_start-with_other starts i j below sixteen apart =
    let within : i / 64 < length starts = omega arith in
    let rest : i % 64 < 64 = omega arith in
    elim (cases_eq (j / 64) (i / 64)) [
      | inl same ↦
          let other : j % 64 ≢ i % 64 = omega arith in
          rw (same, get_or-set_same) (ap (λ n. n == 1) (bit_at_set_other w64 (slice_index starts (i / 64)) (i % 64) rest (j % 64) other))
      | inr other ↦ rw get_or-set_other
    ]

-- ---- bits of some words in a row

-- the low bits of a number
pub bit_at-low : (n k i : ℕ) → i < k → bit_at (n % 2 ^ k) i ≡ bit_at n i
bit_at-low n k i lt =
    let some = pow_pos k in
    let whole : n / 2 ^ k * 2 ^ k + n % 2 ^ k ≡ n = omega arith in
    sym (bit_at_cat_low (n / 2 ^ k) k (n % 2 ^ k) i lt) ∙ ap (λ m. bit_at m i) whole

-- those of a number that is shifted
pub bit_at-shr : (n k i : ℕ) → bit_at (n / 2 ^ k) i ≡ bit_at n (k + i)
bit_at-shr n k i = ap (λ m. m % 2) (shr-shr n k i)

-- and of one that is shifted the other way
bit_at-shl_below : (n k i : ℕ) → i < k → bit_at (n * 2 ^ k) i ≡ 0
bit_at-shl_below n k i lt = let zero_more : n * 2 ^ k + 0 ≡ n * 2 ^ k = omega arith in ap (λ m. bit_at m i) (sym zero_more) ∙ (bit_at_cat_low n k 0 i lt ∙ bit_at-zero i)

bit_at-shl_above : (n k i : ℕ) → k ≤ i → bit_at (n * 2 ^ k) i ≡ bit_at n (i - k)
bit_at-shl_above n k i le = let zero_more : n * 2 ^ k + 0 ≡ n * 2 ^ k = omega arith in ap (λ m. bit_at m i) (sym zero_more) ∙ bit_at_cat_high n k 0 i (pow_pos k) le

max-zero_left : (x : ℕ) → max 0 x ≡ x
max-zero_left x = omega arith

max-zero_right : (x : ℕ) → max x 0 ≡ x
max-zero_right x = omega arith

-- the bits of two numbers, from one of the first on
pub window-low : (x y b j : ℕ) → b < 64 → x < 2 ^ 64 → b + j < 64 → bit_at (bit_or (x / 2 ^ b) (y * 2 ^ (64 - b) % 2 ^ 64)) j ≡ bit_at x (b + j)
window-low x y b j lt small within =
    bit_at_or (x / 2 ^ b) (y * 2 ^ (64 - b) % 2 ^ 64) j
    ∙ (ap (λ m. max (bit_at (x / 2 ^ b) j) m) (bit_at-low (y * 2 ^ (64 - b)) 64 j (omega arith) ∙ bit_at-shl_below y (64 - b) j (omega arith))
    ∙ (max-zero_right (bit_at (x / 2 ^ b) j) ∙ bit_at-shr x b j))

pub window-high : (x y b j : ℕ) → b < 64 → x < 2 ^ 64 → j < 64 → 64 ≤ b + j → bit_at (bit_or (x / 2 ^ b) (y * 2 ^ (64 - b) % 2 ^ 64)) j ≡ bit_at y (b + j - 64)
window-high x y b j lt small less beyond =
    let back : j - (64 - b) ≡ b + j - 64 = omega arith in
    bit_at_or (x / 2 ^ b) (y * 2 ^ (64 - b) % 2 ^ 64) j
    ∙ (ap (λ m. max m (bit_at (y * 2 ^ (64 - b) % 2 ^ 64) j)) (bit_at-shr x b j ∙ bit_at_above x 64 (b + j) small beyond)
    ∙ (max-zero_left (bit_at (y * 2 ^ (64 - b) % 2 ^ 64) j)
    ∙ (bit_at-low (y * 2 ^ (64 - b)) 64 j less ∙ (bit_at-shl_above y (64 - b) j (omega arith) ∙ ap (bit_at y) back))))

-- whether a header begins, by the bit of a number
pub is_start-by : (starts : List ℕ) (i p k : ℕ) → i / 64 ≡ p → i % 64 ≡ k → is_start starts i ≡ (bit_at (slice_index starts p) k == 1)
is_start-by starts i p k place rest = λ t. bit_at (slice_index starts (place t)) (rest t) == 1

-- the highest bit of a number
pub bit_at-highest : (n k : ℕ) → 2 ^ k ≤ n → n < 2 * 2 ^ k → bit_at n k ≡ 1
bit_at-highest n k low high =
    let some = pow_pos k in
    let lt : n / 2 ^ k < 2 = div_below n (2 ^ k) 2 some (omega arith) in
    let rest : n % 2 ^ k < 2 ^ k = mod_below n (2 ^ k) some in
    let ne : n / 2 ^ k ≢ 0 = λ none. let whole : n / 2 ^ k * 2 ^ k + n % 2 ^ k ≡ n = omega arith in let gone : n / 2 ^ k * 2 ^ k ≡ 0 = ap (λ q. q * 2 ^ k) none ∙ omega arith in absurd (omega arith) in
    let one : n / 2 ^ k ≡ 1 = omega arith in
    ap (λ q. q % 2) one

pub pow_le : (a b : ℕ) → a ≤ b → 2 ^ a ≤ 2 ^ b
pow_le a b le =
    let whole : b ≡ a + (b - a) = omega arith in
    let some = pow_pos (b - a) in
    let x : 2 ^ b ≡ 2 ^ a * 2 ^ (b - a) = ap (λ e. 2 ^ e) whole ∙ pow-add 2 a (b - a) in
    let le1 = mul-le-mul_left (2 ^ a) some in
    rw x (omega (arith, le1))

-- a bit of a small number is among its low ones
pub below_pow : (n k m : ℕ) → 2 ^ k ≤ n → n < 2 ^ m → k < m
below_pow n k m low high =
    elim (cases_lt k m) [
      | inl lt ↦ lt
      | inr le ↦ let p = pow_le m k le in absurd (omega arith)
    ]

-- ---- where headers begin, by bits

module _ (starts : List ℕ) (index bits : ℕ) (says : (j : ℕ) → j < 64 → index + j < 1024 → is_start starts (index + j) ≡ (bit_at bits j == 1)) where
  says_at : (j : ℕ) → index ≤ j → j < index + 64 → j < 1024 → is_start starts j ≡ (bit_at bits (j - index) == 1)
  says_at j low high all =
      let back : index + (j - index) ≡ j = omega arith in
      ap (is_start starts) (sym back) ∙ says (j - index) (omega arith) (omega arith)

  -- none begins where the bit is 0
  pub none_at : (j : ℕ) → index ≤ j → j < index + 64 → j < 1024 → bit_at bits (j - index) ≡ 0 → is_start starts j ≡ true → ⊥
  none_at j low high all zero_bit begins =
      let gone : false ≡ true = sym (says_at j low high all ∙ ap (λ m. m == 1) zero_bit) ∙ begins in
      false≢true gone

  -- and one where it is 1
  pub one_at : (j : ℕ) → j < 64 → index + j < 1024 → bit_at bits j ≡ 1 → is_start starts (index + j) ≡ true
  one_at j less all one = says j less all ∙ ap (λ m. m == 1) one

  -- none of the words up to an end, where the lowest bit is beyond
  pub free_below : (end : ℕ) → 0 < bits → bits < 2 ^ 64 → end ≤ index + 64 → end ≤ 1024 → end ≤ index + trailing_zeros w64 bits → (j : ℕ) → index ≤ j → j < end → is_start starts j ≡ true → ⊥
  free_below end some small few all beyond j low high = none_at j low (omega arith) (omega arith) ((bit_at-trailing_zeros w64 bits some small).2 (j - index) (omega arith))

  pub begins_below : (end : ℕ) → 0 < bits → bits < 2 ^ 64 → end ≤ 1024 → index + trailing_zeros w64 bits < end → is_start starts (index + trailing_zeros w64 bits) ≡ true
  begins_below end some small all before =
      let t = bit_at-trailing_zeros w64 bits some small in
      one_at (trailing_zeros w64 bits) t.0 (omega arith) t.1
