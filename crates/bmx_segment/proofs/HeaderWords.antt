-- A header and its words say the same.
use Rattle.std.proofs.Common.{◌≡◌, ℕ, ◌+◌, ◌*◌, ◌^◌, ◌<◌, arith, sym, ap, ◌∙◌, inl, inr, eq-eqb}
use Rattle.std.proofs.lemmas.Bool.{cases_eq, ne_eqb}
use Rattle.bmx_segment.specs.Headers.{mark_of, third_of, fourth_of, header_of, state_in, size_in, bunch_in, state_number, state_of, IsHeaderWords}

-- a state that is read has the number and the words that it was read from
module _ (n t f : ℕ) where
  third_of-read : third_of (state_of n t f) t ≡ t
  third_of-read =
      elim (cases_eq n 1) [
        | inl one ↦ rw (eq-eqb n 1 one)
        | inr not_one ↦ elim (cases_eq n 2) [
          | inl two ↦ rw (ne_eqb n 1 not_one, eq-eqb n 2 two)
          | inr not_two ↦ rw (ne_eqb n 1 not_one, ne_eqb n 2 not_two)
        ]
      ]

  fourth_of-read : fourth_of (state_of n t f) f ≡ f
  fourth_of-read =
      elim (cases_eq n 1) [
        | inl one ↦ rw (eq-eqb n 1 one)
        | inr not_one ↦ elim (cases_eq n 2) [
          | inl two ↦ rw (ne_eqb n 1 not_one, eq-eqb n 2 two)
          | inr not_two ↦ rw (ne_eqb n 1 not_one, ne_eqb n 2 not_two)
        ]
      ]

  number_of-read : 0 < n → n < 4 → state_number (state_of n t f) ≡ n
  number_of-read some few =
      elim (cases_eq n 1) [
        | inl one ↦ rw (eq-eqb n 1 one) (sym one)
        | inr not_one ↦ elim (cases_eq n 2) [
          | inl two ↦ rw (ne_eqb n 1 not_one, eq-eqb n 2 two) (sym two)
          | inr not_two ↦ rw (ne_eqb n 1 not_one, ne_eqb n 2 not_two) (omega arith)
        ]
      ]

pub words_of-read : (mark name third fourth : ℕ) → IsHeaderWords mark name third fourth
    → (mark_of (header_of mark name third fourth) ≡ mark) × (third_of (header_of mark name third fourth).state third ≡ third) × (fourth_of (header_of mark name third fourth).state fourth ≡ fourth)
words_of-read mark name third fourth is =
    let number = number_of-read (state_in mark) third fourth is.a_state is.no_more_states in
    let marked : mark_of (header_of mark name third fourth) ≡ 0xb3a0 * 2 ^ 48 + state_in mark * 2 ^ 16 + size_in mark * 2 ^ 8 + bunch_in mark =
    ap (λ (k : ℕ). 0xb3a0 * 2 ^ 48 + k * 2 ^ 16 + size_in mark * 2 ^ 8 + bunch_in mark) number in
    (marked ∙ sym is.marked, third_of-read (state_in mark) third fourth, fourth_of-read (state_in mark) third fourth)
