-- A block in which a field is written, and a blank one.
use Rattle.std.proofs.Common.{◌≡◌, ◌≢◌, ◌⊎◌, ℕ, ◌+◌, ◌*◌, ◌/◌, ◌%◌, ◌^◌, ◌<◌, ◌≤◌, true, false, length, get_or, set, replicate, Option, Some, None, arith, refl, sym, ap, ◌∙◌, inl, inr, subst, eq-eqb, zero, suc, ◌-◌}
use Rattle.std.proofs.lemmas.Bool.{cases_eq, cases_lt, cases_order, cases_Bool, ne_eqb, false≢true}
use Rattle.std.proofs.lemmas.Option.{cond_some}
use Rattle.std.proofs.lemmas.List.{length-set, get_or-set_same, get_or-set_other, get_or-replicate, get_or_past, length-replicate}
use Rattle.std.proofs.lemmas.Nat.Bits.{bit_at-zero}
use Rattle.std.specs.Prelude.{slice_index, IsSomeAnd}
use Rattle.bmx_segment.specs.Headers.{header_of, state_in, size_in, state_of, IsHeaderWords, IsLive, with_kind, with_kind_at, live_number}
use Rattle.bmx_segment.specs.Blocks.{Block, is_start, header_in, with_field, blank_words, blank_starts, blank_block, live_below, live_at, live_in}
use Rattle.std.proofs.lemmas.Nat.{pow-add, div_below, mul-add-lt, pow_pos}
use Rattle.bmx_segment.specs.Inside.Blocks.{IsBlock}
use Rattle.bmx_segment.specs.Inside.Stores.{IsBlank}
use Rattle.bmx_segment.specs.declared.headers.Header.{Header}
use Rattle.bmx_segment.specs.declared.headers.State.{State}
use Rattle.bmx_segment.specs.declared.headers.State.TheVariants.{Live, Forwarded, Dead}

-- a state that was read as live has the number 1
live_is_one : (s t f : ℕ) → IsLive (state_of s t f) → s ≡ 1
live_is_one s t f live =
    elim (cases_eq s 1) [
      | inl one ↦ one
      | inr not_one ↦
          elim (cases_eq s 2) [
            | inl two ↦ let e : state_of s t f ≡ Forwarded t = rw (ne_eqb s 1 not_one, eq-eqb s 2 two) in absurd (let P : State → Type 0 = IsLive in subst P e live)
            | inr not_two ↦ let e : state_of s t f ≡ Dead = rw (ne_eqb s 1 not_one, ne_eqb s 2 not_two) in absurd (let P : State → Type 0 = IsLive in subst P e live)
          ]
    ]

module _ (b : Block) (i field n w : ℕ) (block : IsBlock b) (h : Header) (is : header_in b i ≡ Some h) (live : IsLive h.state) (has : field < h.size) where
  begins : is_start b.starts i ≡ true
  begins = (cond_some _ _ _ is).0

  reads : header_of (slice_index b.words i) (slice_index b.words (i + 1)) (slice_index b.words (i + 2)) (slice_index b.words (i + 3)) ≡ h
  reads = (cond_some _ _ _ is).1

  size_is : size_in (slice_index b.words i) ≡ h.size
  size_is = ap (λ (x : Header). x.size) reads

  -- the words other than the two that are written stay
  pub word-with_field : (k : ℕ) → k ≢ i + 3 → k ≢ i + 4 + field → slice_index (with_field b i field n w).words k ≡ slice_index b.words k
  word-with_field k not_kinds not_field = rw (get_or-set_other, get_or-set_other)

  -- the field's word is the one that was written
  pub word-with_field_same : slice_index (with_field b i field n w).words (i + 4 + field) ≡ w
  word-with_field_same =
      let inside = block.inside i begins in
      let all = block.all_words in
      let size = size_is in
      let l = length-set b.words (i + 3) (with_kind (slice_index b.words (i + 3)) field n) in
      let within : i + 4 + field < length (set b.words (i + 3) (with_kind (slice_index b.words (i + 3)) field n)) = omega arith in
      rw get_or-set_same

  kinds_are : slice_index (with_field b i field n w).words (i + 3) ≡ with_kind (slice_index b.words (i + 3)) field n
  kinds_are =
      let inside = block.inside i begins in
      let all = block.all_words in
      let within : i + 3 < length b.words = omega arith in
      let apart : i + 3 ≢ i + 4 + field = omega arith in
      rw (get_or-set_other, get_or-set_same)

  kept : (j k : ℕ) → j ≢ i → is_start b.starts j ≡ true → j ≤ k → k < j + 4 → slice_index (with_field b i field n w).words k ≡ slice_index b.words k
  kept j k ne bj low high =
      let size = size_is in
      elim (cases_order i j) [
        | inl same ↦ absurd (ne (sym same))
        | inr rest ↦ elim rest [
          | inl before ↦ let far = block.apart i j begins bj before in word-with_field k (omega arith) (omega arith)
          | inr after ↦ let far = block.apart j i bj begins after in word-with_field k (omega arith) (omega arith)
        ]
      ]

  -- the headers elsewhere stay
  pub header_in-with_field_other : (j : ℕ) → j ≢ i → header_in (with_field b i field n w) j ≡ header_in b j
  header_in-with_field_other j ne =
      elim (cases_Bool (is_start b.starts j)) [
        | inl bj ↦
            let k0 = kept j j ne bj (omega arith) (omega arith) in
            let k1 = kept j (j + 1) ne bj (omega arith) (omega arith) in
            let k2 = kept j (j + 2) ne bj (omega arith) (omega arith) in
            let k3 = kept j (j + 3) ne bj (omega arith) (omega arith) in
            rw (k0, k1, k2, k3)
        | inr none ↦ rw none
      ]

  one : state_in (slice_index b.words i) ≡ 1
  one = let P : State → Type 0 = IsLive in live_is_one _ _ _ (subst P (sym (ap (λ (x : Header). x.state) reads)) live)

  -- the header has the field's new kind
  pub header_in-with_field_same : header_in (with_field b i field n w) i ≡ Some (record h { state = with_kind_at h.state field n })
  header_in-with_field_same =
      let k0 = word-with_field i (omega arith) (omega arith) in
      let k1 = word-with_field (i + 1) (omega arith) (omega arith) in
      let k2 = word-with_field (i + 2) (omega arith) (omega arith) in
      rw (begins, k0, k1, k2, kinds_are, ← reads, eq-eqb _ 1 one)

  headers_after : (j : ℕ) → is_start b.starts j ≡ true → (j ≡ i) ⊎ (j ≡ i → ⊥) → IsHeaderWords (slice_index (with_field b i field n w).words j) (slice_index (with_field b i field n w).words (j + 1)) (slice_index (with_field b i field n w).words (j + 2)) (slice_index (with_field b i field n w).words (j + 3))
  headers_after j bj (inl same) =
      let k0 = word-with_field i (omega arith) (omega arith) in
      let k1 = word-with_field (i + 1) (omega arith) (omega arith) in
      let k2 = word-with_field (i + 2) (omega arith) (omega arith) in
      let old = block.headers i begins in
      rw (same, k0, k1, k2) (record {
        marked = old.marked;
        a_state = old.a_state;
        no_more_states = old.no_more_states;
        few_fields = old.few_fields;
        a_bunch = old.a_bunch;
        named = old.named;
        leads = old.leads;
      })
  headers_after j bj (inr ne) =
      let k0 = kept j j ne bj (omega arith) (omega arith) in
      let k1 = kept j (j + 1) ne bj (omega arith) (omega arith) in
      let k2 = kept j (j + 2) ne bj (omega arith) (omega arith) in
      let k3 = kept j (j + 3) ne bj (omega arith) (omega arith) in
      rw (k0, k1, k2, k3) (block.headers j bj)

  first_kept : (j : ℕ) → is_start b.starts j ≡ true → (j ≡ i) ⊎ (j ≡ i → ⊥) → size_in (slice_index (with_field b i field n w).words j) ≡ size_in (slice_index b.words j)
  first_kept j bj (inl same) = let k0 = word-with_field i (omega arith) (omega arith) in rw (same, k0)
  first_kept j bj (inr ne) = ap size_in (kept j j ne bj (omega arith) (omega arith))

  pub IsBlock-with_field : IsBlock (with_field b i field n w)
  IsBlock-with_field = record {
    a_home = block.a_home;
    a_number = block.a_number;
    few_numbers = block.few_numbers;
    all_words = length-set (set b.words (i + 3) (with_kind (slice_index b.words (i + 3)) field n)) (i + 4 + field) w ∙ (length-set b.words (i + 3) (with_kind (slice_index b.words (i + 3)) field n) ∙ block.all_words);
    all_starts = block.all_starts;
    headers = λ j bj. headers_after j bj (cases_eq j i);
    inside = λ j bj. rw (first_kept j bj (cases_eq j i)) (block.inside j bj);
    apart = λ j k bj bk lt. rw (first_kept j bj (cases_eq j i)) (block.apart j k bj bk lt);
  }

-- in a blank block no header begins
pub is_start-blank : (i : ℕ) → is_start blank_starts i ≡ false
is_start-blank i =
    let zero_there : ◌≡◌ {A = ℕ} (get_or (replicate 16 0) (i / 64) 0) 0 =
    elim (cases_lt (i / 64) 16) [
      | inl within ↦ get_or-replicate 16 (i / 64) 0 0 within
      | inr past ↦ get_or_past (replicate 16 0) (i / 64) 0 past
    ] in
    rw (zero_there, bit_at-zero)

pub header_in-blank : (home number i : ℕ) → header_in (blank_block home number) i ≡ None
header_in-blank home number i = rw (is_start-blank i)

pub word-blank : (i : ℕ) → slice_index blank_words i ≡ 0
unfolding blank_words
word-blank i =
    elim (cases_lt i 1024) [
      | inl within ↦ get_or-replicate 1024 i 0 0 within
      | inr past ↦ get_or_past (replicate 1024 0) i 0 (rw length-replicate past)
    ]

length-blank : length blank_words ≡ 1024
unfolding blank_words
length-blank = length-replicate {A = ℕ} 1024 0

pub IsBlock-blank : (home number : ℕ) → home < 8 → 0 < number → number < 2 ^ 16 → IsBlock (blank_block home number)
IsBlock-blank home number small some few = record {
  a_home = small;
  a_number = some;
  few_numbers = few;
  all_words = length-blank;
  all_starts = refl;
  headers = λ i begins. absurd (false≢true (sym (is_start-blank i) ∙ begins));
  inside = λ i begins. absurd (false≢true (sym (is_start-blank i) ∙ begins));
  apart = λ i j bi bj lt. absurd (false≢true (sym (is_start-blank i) ∙ bi));
}

pub IsBlock-renumbered : (b : Block) (home number : ℕ) → IsBlock b → home < 8 → 0 < number → number < 2 ^ 16 → IsBlock (record b { home = home; number = number })
IsBlock-renumbered b home number block small some few = record {
  a_home = small;
  a_number = some;
  few_numbers = few;
  all_words = block.all_words;
  all_starts = block.all_starts;
  headers = block.headers;
  inside = block.inside;
  apart = block.apart;
}

-- the header behind a field
pub header_with : (o : Option Header) (P : Header → Type 0) → IsSomeAnd o P → (h : Header) × (o ≡ Some h) × P h
header_with None P none = absurd none
header_with (Some h) P holds = (h, refl, holds)

-- kinds of so many fields stay kinds of so many
pub with_kind-lt : (kinds k n size : ℕ) → kinds < 2 ^ (2 * size) → k < size → n < 4 → with_kind kinds k n < 2 ^ (2 * size)
with_kind-lt kinds k n size few within small =
    let u : ℕ = 2 ^ (2 * k) in
    let t : ℕ = 2 ^ (2 * size - 2 - 2 * k) in
    let whole : 2 * k + (2 * size - 2 - 2 * k) + 2 ≡ 2 * size = omega arith in
    let product : u * t ≡ 2 ^ (2 * k + (2 * size - 2 - 2 * k)) = sym (pow-add 2 (2 * k) (2 * size - 2 - 2 * k)) in
    let all_bits : 2 ^ (2 * size) ≡ u * t * 4 = ap (λ (e : ℕ). 2 ^ e) (sym whole) ∙ (pow-add 2 (2 * k + (2 * size - 2 - 2 * k)) 2 ∙ ap (λ (p : ℕ). p * 4) (sym product)) in
    let some : 0 < u = pow_pos (2 * k) in
    let above : kinds < t * 4 * u = omega arith in
    let quotient = div_below kinds u (t * 4) some above in
    let quarter = div_below (kinds / u) 4 t (omega arith) quotient in
    let rest : kinds % u < u = omega arith in
    let all = mul-add-lt (kinds / u / 4 * 4 + n) u (kinds % u) (t * 4) (omega arith) rest in
    omega arith

live_number-le : (s : State) → live_number s ≤ 1
live_number-le (Live moves kinds) = omega arith
live_number-le (Forwarded to) = omega arith
live_number-le Dead = omega arith

live_at-le : (o : Option Header) → live_at o ≤ 1
live_at-le None = omega arith
live_at-le (Some h) = live_number-le h.state

none_below : (home number n : ℕ) → 0 ≡ live_below (blank_block home number) n
none_below home number zero = refl
none_below home number (suc n) =
    let rest = none_below home number n in
    let none = ap live_at (header_in-blank home number n) in
    omega arith

-- a blank block has no live header
pub live-blank : (home number : ℕ) → 0 ≡ live_in (blank_block home number)
live-blank home number = none_below home number (length blank_words)

-- one more word is counted
pub live_below-more : (b : Block) (i : ℕ) → live_below b (i + 1) ≡ live_below b i + live_at (header_in b i)
live_below-more b i = let e : i + 1 ≡ suc i = omega arith in ap (λ (n : ℕ). live_below b n) e

pub live_below-le : (b : Block) (i : ℕ) → live_below b i ≤ i
live_below-le b zero = omega arith
live_below-le b (suc i) = let rest = live_below-le b i in let one = live_at-le (header_in b i) in omega arith

-- a blank block under another number
pub renumbered-blank : (s : Block) (home number : ℕ) → IsBlank s → ◌≡◌ {A = Block} (record s { home = home; number = number }) (blank_block home number)
renumbered-blank s home number blank = rw (blank.0, blank.1)
