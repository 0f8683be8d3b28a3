-- What the kinds of the fields are after one of them was replaced.
use Rattle.std.proofs.Common.{◌≡◌, ℕ, ◌+◌, ◌-◌, ◌*◌, ◌/◌, ◌%◌, ◌^◌, ◌<◌, arith, refl, sym, ap, ◌∙◌, inl, inr, eq-eqb}
use Rattle.std.specs.Prelude.{◌==◌, if◌then◌else◌}
use Rattle.std.proofs.lemmas.Bool.{cases_order, ne_eqb}
use Rattle.std.proofs.lemmas.Nat.{pow_pos, shr-shr, mod-pow-add, field_of, mod_low, mod_below, div-mul-add, mod-mul-add}
use Rattle.bmx_segment.specs.Headers.{kind_of, with_kind, kind_number}
use Rattle.bmx_segment.specs.declared.headers.Kind.{Kind}
use Rattle.bmx_segment.specs.declared.headers.Kind.TheVariants.{Null, Int, Ref, Far}

pub kind_number-lt : (k : Kind) → kind_number k < 4
kind_number-lt Null = omega arith
kind_number-lt Int = omega arith
kind_number-lt Ref = omega arith
kind_number-lt Far = omega arith

-- the low bits of the low bits
mod_twice : (n e m : ℕ) → n % 2 ^ m ≡ (n % 2 ^ (e + m)) % 2 ^ m
mod_twice n e m =
    sym (ap (λ (k : ℕ). k % 2 ^ m) (mod-pow-add n e m) ∙ mod_low (n / 2 ^ m % 2 ^ e) m (n % 2 ^ m) (mod_below n (2 ^ m) (pow_pos m)))

module _ (kinds i n : ℕ) (small : n < 4) where
  rest_lt : kinds % 2 ^ (2 * i) < 2 ^ (2 * i)
  rest_lt = mod_below kinds (2 ^ (2 * i)) (pow_pos (2 * i))

  high_is : with_kind kinds i n / 2 ^ (2 * i) ≡ kinds / 2 ^ (2 * i) / 4 * 4 + n
  high_is = div-mul-add (kinds / 2 ^ (2 * i) / 4 * 4 + n) (2 ^ (2 * i)) (kinds % 2 ^ (2 * i)) rest_lt

  low_is : with_kind kinds i n % 2 ^ (2 * i) ≡ kinds % 2 ^ (2 * i)
  low_is = mod-mul-add (kinds / 2 ^ (2 * i) / 4 * 4 + n) (2 ^ (2 * i)) (kinds % 2 ^ (2 * i)) rest_lt

  kind_same : kind_of (with_kind kinds i n) i ≡ n
  kind_same = ap (λ (k : ℕ). k % 4) high_is ∙ mod-mul-add (kinds / 2 ^ (2 * i) / 4) 4 n small

  -- a field behind
  above : (x j : ℕ) → i < j → x / 2 ^ (2 * j) ≡ x / 2 ^ (2 * i) / 4 / 2 ^ (2 * j - 2 * i - 2)
  above x j lt =
      let e : 2 * j ≡ 2 * i + 2 + (2 * j - 2 * i - 2) = omega arith in
      ap (λ (k : ℕ). x / 2 ^ k) e
      ∙ (sym (shr-shr x (2 * i + 2) (2 * j - 2 * i - 2)) ∙ ap (λ (k : ℕ). k / 2 ^ (2 * j - 2 * i - 2)) (sym (shr-shr x (2 * i) 2)))

  kind_above : (j : ℕ) → i < j → kind_of (with_kind kinds i n) j ≡ kind_of kinds j
  kind_above j lt =
      let quarter : with_kind kinds i n / 2 ^ (2 * i) / 4 ≡ kinds / 2 ^ (2 * i) / 4 =
      ap (λ (k : ℕ). k / 4) high_is ∙ div-mul-add (kinds / 2 ^ (2 * i) / 4) 4 n small in
      ap (λ (k : ℕ). k % 4)
      (above (with_kind kinds i n) j lt ∙ (ap (λ (k : ℕ). k / 2 ^ (2 * j - 2 * i - 2)) quarter ∙ sym (above kinds j lt)))

  -- a field in front
  below : (x j : ℕ) → j < i → x % 2 ^ (2 + 2 * j) ≡ x % 2 ^ (2 * i) % 2 ^ (2 + 2 * j)
  below x j lt =
      let e : (2 * i - 2 - 2 * j) + (2 + 2 * j) ≡ 2 * i = omega arith in
      mod_twice x (2 * i - 2 - 2 * j) (2 + 2 * j) ∙ ap (λ (k : ℕ). x % 2 ^ k % 2 ^ (2 + 2 * j)) e

  kind_below : (j : ℕ) → j < i → kind_of (with_kind kinds i n) j ≡ kind_of kinds j
  kind_below j lt =
      let same : with_kind kinds i n % 2 ^ (2 + 2 * j) ≡ kinds % 2 ^ (2 + 2 * j) =
      below (with_kind kinds i n) j lt ∙ (ap (λ (k : ℕ). k % 2 ^ (2 + 2 * j)) low_is ∙ sym (below kinds j lt)) in
      sym (field_of (with_kind kinds i n) 2 (2 * j)) ∙ (ap (λ (k : ℕ). k / 2 ^ (2 * j)) same ∙ field_of kinds 2 (2 * j))

  pub kind_of-with_kind : (j : ℕ) → kind_of (with_kind kinds i n) j ≡ (if j == i then n else kind_of kinds j)
  kind_of-with_kind j =
      elim (cases_order j i) [
        | inl same ↦ rw (same, eq-eqb i i refl) kind_same
        | inr rest ↦ elim rest [
          | inl lt ↦ let ne : j ≡ i → ⊥ = omega arith in rw (ne_eqb j i ne) (kind_below j lt)
          | inr gt ↦ let ne : j ≡ i → ⊥ = omega arith in rw (ne_eqb j i ne) (kind_above j gt)
        ]
      ]
