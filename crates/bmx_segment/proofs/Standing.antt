-- A block in which a header is set.
use Rattle.std.proofs.Common.{◌≡◌, ◌≢◌, ◌⊎◌, ℕ, ◌+◌, ◌/◌, ◌<◌, ◌≤◌, ◌↔◌, true, false, length, Some, None, arith, refl, sym, ap, ◌∙◌, inl, inr, subst, eq-eqb}
use Rattle.std.proofs.lemmas.Bool.{cases_eq, cases_lt, cases_order, cases_Bool, ne_eqb, false≢true}
use Rattle.std.proofs.lemmas.Option.{cond_some, none-some}
use Rattle.std.proofs.lemmas.List.{length-set}
use Rattle.std.specs.Prelude.{slice_index, IsSome, Bool, if◌then◌else◌}
use Rattle.bmx_types.specs.Words.{IsAddress}
use Rattle.bmx_segment.specs.Headers.{mark_of, third_of, fourth_of, header_of, held_moves, state_in, size_in, bunch_in, state_number, state_of, IsHeaderWords, IsHeader}
use Rattle.bmx_segment.specs.Blocks.{Block, is_start, header_in, CanStand, with_header, words_with, starts_with}
use Rattle.bmx_segment.specs.Inside.Blocks.{IsBlock}
use Rattle.bmx_segment.specs.declared.headers.Header.{Header}
use Rattle.bmx_segment.specs.declared.headers.State.{State}
use Rattle.bmx_segment.specs.declared.headers.State.TheVariants.{Live, Forwarded, Dead}
use Rattle.bmx_segment.proofs.Starts.{is_start-with_same, is_start-with_other}
use Rattle.bmx_segment.proofs.Four.{length-four, four_first, four_second, four_third, four_fourth, four_others}

state_number-range : (s : State) → (0 < state_number s) × (state_number s < 4)
state_number-range (Live moves kinds) = (omega arith, omega arith)
state_number-range (Forwarded to) = (omega arith, omega arith)
state_number-range Dead = (omega arith, omega arith)

-- the parts of the mark of a header
mark-state : (h : Header) → IsHeader h → state_in (mark_of h) ≡ state_number h.state
mark-state h ok = let r = state_number-range h.state in let few = ok.few in let b = ok.a_bunch in omega arith

mark-size : (h : Header) → IsHeader h → size_in (mark_of h) ≡ h.size
mark-size h ok = let r = state_number-range h.state in let few = ok.few in let b = ok.a_bunch in omega arith

mark-bunch : (h : Header) → IsHeader h → bunch_in (mark_of h) ≡ h.bunch
mark-bunch h ok = let r = state_number-range h.state in let few = ok.few in let b = ok.a_bunch in omega arith

state_of-number : (s : State) (third fourth : ℕ) → state_of (state_number s) (third_of s third) (fourth_of s fourth) ≡ s
state_of-number (Live moves kinds) third fourth = refl
state_of-number (Forwarded to) third fourth = refl
state_of-number Dead third fourth = refl

-- the words of a header are read as that header
pub header_of-words : (h : Header) (third fourth : ℕ) → IsHeader h → header_of (mark_of h) h.name (third_of h.state third) (fourth_of h.state fourth) ≡ h
header_of-words h third fourth ok =
    let s = mark-state h ok in let z = mark-size h ok in let b = mark-bunch h ok in
    rw (s, z, b, state_of-number h.state third fourth)

third-to : (s : State) (held : ℕ) → state_number s ≡ 2 → third_of s held ≡ third_of s 0
third-to (Live moves kinds) held e = refl
third-to (Forwarded to) held e = refl
third-to Dead held e = absurd (omega arith)

-- and they are words of a header
IsHeaderWords-words : (h : Header) (third fourth : ℕ) → IsHeader h → IsHeaderWords (mark_of h) h.name (third_of h.state third) (fourth_of h.state fourth)
IsHeaderWords-words h third fourth ok =
    let s = mark-state h ok in let z = mark-size h ok in let b = mark-bunch h ok in
    let r = state_number-range h.state in
    record {
      marked = rw (s, z, b);
      a_state = rw s r.0;
      no_more_states = rw s r.1;
      few_fields = rw z ok.few;
      a_bunch = rw b ok.a_bunch;
      named = ok.named;
      leads = λ e. let n : state_number h.state ≡ 2 = sym s ∙ e in rw third-to (ok.leads n);
    }

-- the address in a state that was read
state_leads : (s t f : ℕ) → (s ≡ 2 → IsAddress t) → state_number (state_of s t f) ≡ 2 → IsAddress (third_of (state_of s t f) 0)
state_leads s t f leads two =
    elim (cases_eq s 1) [
      | inl one ↦ absurd (let e : state_number (state_of s t f) ≡ 1 = rw (eq-eqb s 1 one) in omega arith)
      | inr not_one ↦
          elim (cases_eq s 2) [
            | inl is_two ↦ rw (ne_eqb s 1 not_one, eq-eqb s 2 is_two) (leads is_two)
            | inr not_two ↦ absurd (let e : state_number (state_of s t f) ≡ 3 = rw (ne_eqb s 1 not_one, ne_eqb s 2 not_two) in omega arith)
          ]
    ]

-- where a bit says so, a header begins
pub stands : (b : Block) (i : ℕ) → is_start b.starts i ≡ true → header_in b i ≡ Some (header_of (slice_index b.words i) (slice_index b.words (i + 1)) (slice_index b.words (i + 2)) (slice_index b.words (i + 3)))
stands b i begins = rw begins

-- the header of a word where one begins
pub start_of : (b : Block) (i : ℕ) → IsSome (header_in b i) → (is_start b.starts i ≡ true) × ((h : Header) × (header_in b i ≡ Some h) × (size_in (slice_index b.words i) ≡ h.size))
start_of b i there =
    elim (cases_Bool (is_start b.starts i)) [
      | inl begins ↦ (begins, (_, stands b i begins, refl))
      | inr none ↦ let P : Bool → Type 0 = λ x. IsSome (if x then Some (header_of (slice_index b.words i) (slice_index b.words (i + 1)) (slice_index b.words (i + 2)) (slice_index b.words (i + 3))) else None) in absurd (false≢true (subst P none there))
    ]

-- what begins at a word can be set there again, in another state
pub CanStand-again : (b : Block) (i : ℕ) → IsBlock b → is_start b.starts i ≡ true → CanStand b i (slice_index b.words (i + 1)) (size_in (slice_index b.words i))
CanStand-again b i block begins = record {
  inside = block.inside i begins;
  alone = λ j other inside e ne.
      let s = cond_some _ _ _ e in
      let size : size_in (slice_index b.words j) ≡ other.size = ap (λ (h : Header). h.size) s.1 in
      elim (cases_order i j) [
        | inl same ↦ absurd (ne (sym same))
        | inr rest ↦ elim rest [
          | inl before ↦ inr (block.apart i j begins s.0 before)
          | inr after ↦ let far = block.apart j i s.0 begins after in inl (omega arith)
        ]
      ];
  same = λ other e.
      let s = cond_some _ _ _ e in
      (sym (ap (λ (h : Header). h.name) s.1), sym (ap (λ (h : Header). h.size) s.1));
}

-- the same, for the header that is known to begin there
pub CanStand-there : (b : Block) (i name size : ℕ) (there : Header) → IsBlock b → header_in b i ≡ Some there → there.name ≡ name → there.size ≡ size → CanStand b i name size
CanStand-there b i name size there block e en es =
    let s = cond_some _ _ _ e in
    let again = CanStand-again b i block s.0 in
    let has : size_in (slice_index b.words i) ≡ there.size = ap (λ (h : Header). h.size) s.1 in
    let named : slice_index b.words (i + 1) ≡ there.name = ap (λ (h : Header). h.name) s.1 in
    record {
      inside = let inside = again.inside in omega arith;
      alone = λ j other within eo ne. elim (again.alone j other within eo ne) [ inl before ↦ inl before | inr after ↦ inr (omega arith) ];
      same = λ other eo. let same = again.same other eo in (same.0 ∙ (named ∙ en), same.1 ∙ (has ∙ es));
    }

-- the same, for what is read there
pub CanStand-begins : (b : Block) (i : ℕ) (h : Header) → IsBlock b → header_in b i ≡ Some h → CanStand b i h.name h.size
CanStand-begins b i h block e = CanStand-there b i h.name h.size h block e refl refl

-- what begins there has that name and size exactly where those can be set
pub CanStand-same : (b : Block) (i name size : ℕ) → IsBlock b → is_start b.starts i ≡ true → ((slice_index b.words (i + 1) ≡ name) × (size_in (slice_index b.words i) ≡ size)) ↔ CanStand b i name size
CanStand-same b i name size block begins = (
  λ e. CanStand-there b i name size (header_of (slice_index b.words i) (slice_index b.words (i + 1)) (slice_index b.words (i + 2)) (slice_index b.words (i + 3))) block (stands b i begins) e.0 e.1,
  λ can. can.same (header_of (slice_index b.words i) (slice_index b.words (i + 1)) (slice_index b.words (i + 2)) (slice_index b.words (i + 3))) (stands b i begins),
)

-- no header is where none begins
pub nothing : (b : Block) (i : ℕ) → is_start b.starts i ≡ false → header_in b i ≡ None
nothing b i none = rw none

-- a header can begin where none does, and none reaches or begins within its words
pub CanStand-free : (b : Block) (i name size : ℕ) → header_in b i ≡ None → i + 4 + size ≤ 1024 → ((j : ℕ) (other : Header) → header_in b j ≡ Some other → (j + 4 + other.size ≤ i) ⊎ (i + 4 + size ≤ j)) → CanStand b i name size
CanStand-free b i name size none inside alone = record {
  inside = inside;
  alone = λ j other within e ne. alone j other e;
  same = λ other e. absurd (none-some other (sym none ∙ e));
}

-- no more than 32 fields follow a header of a block
pub size-few : (b : Block) (j : ℕ) (other : Header) → IsBlock b → header_in b j ≡ Some other → (other.size ≤ 32) × (j + 4 + other.size ≤ 1024)
size-few b j other block e =
    let s = cond_some _ _ _ e in
    let has : size_in (slice_index b.words j) ≡ other.size = ap (λ (h : Header). h.size) s.1 in
    let few = (block.headers j s.0).few_fields in
    let inside = block.inside j s.0 in
    (omega arith, omega arith)

-- no header begins where there is none
pub not_start : (b : Block) (i : ℕ) → header_in b i ≡ None → is_start b.starts i ≡ true → ⊥
not_start b i none begins = none-some _ (sym none ∙ stands b i begins)

-- a header can begin where none does, none begins within its words, and the last before it ends before it
pub free_of : (b : Block) (i name size last : ℕ) → IsBlock b → header_in b i ≡ None → i + 4 + size ≤ 1024
    → ((j : ℕ) → i ≤ j → j < i + 4 + size → is_start b.starts j ≡ true → ⊥)
    → (last < i) × (is_start b.starts last ≡ true) × ((j : ℕ) → last < j → j < i → is_start b.starts j ≡ true → ⊥)
    → last + 4 + size_in (slice_index b.words last) ≤ i
    → CanStand b i name size
free_of b i name size last block none inside free nearest ends =
    CanStand-free b i name size none inside (λ j other e.
    let s = cond_some _ _ _ e in
    let has : size_in (slice_index b.words j) ≡ other.size = ap (λ (h : Header). h.size) s.1 in
    elim (cases_lt j i) [
      | inl before ↦ elim (cases_order j last) [
        | inl same ↦ let z : size_in (slice_index b.words j) ≡ size_in (slice_index b.words last) = ap (λ k. size_in (slice_index b.words k)) same in inl (omega arith)
        | inr rest ↦ elim rest [
          | inl lt ↦ let far = block.apart j last s.0 nearest.1 lt in inl (omega arith)
          | inr gt ↦ absurd (nearest.2 j gt before s.0)
        ]
      ]
      | inr at_least ↦ elim (cases_lt j (i + 4 + size)) [
        | inl within ↦ absurd (free j at_least within s.0)
        | inr beyond ↦ inr beyond
      ]
    ])

-- the same where none begins in the 64 words before it
pub free_alone : (b : Block) (i name size : ℕ) → IsBlock b → header_in b i ≡ None → i + 4 + size ≤ 1024
    → ((j : ℕ) → i ≤ j → j < i + 4 + size → is_start b.starts j ≡ true → ⊥)
    → ((j : ℕ) → i ≤ j + 64 → j < i → is_start b.starts j ≡ true → ⊥)
    → CanStand b i name size
free_alone b i name size block none inside free alone =
    CanStand-free b i name size none inside (λ j other e.
    let s = cond_some _ _ _ e in
    let few = size-few b j other block e in
    elim (cases_lt j i) [
      | inl before ↦ elim (cases_lt (j + 64) i) [
        | inl far ↦ inl (omega arith)
        | inr near ↦ absurd (alone j near before s.0)
      ]
      | inr at_least ↦ elim (cases_lt j (i + 4 + size)) [
        | inl within ↦ absurd (free j at_least within s.0)
        | inr beyond ↦ inr beyond
      ]
    ])

-- a header of a block has words
pub IsHeader-in : (b : Block) (j : ℕ) (other : Header) → IsBlock b → header_in b j ≡ Some other → IsHeader other
IsHeader-in b j other block e =
    let s = cond_some _ _ _ e in
    let h = block.headers j s.0 in
    let m = slice_index b.words j in
    let t = slice_index b.words (j + 2) in
    let f = slice_index b.words (j + 3) in
    let P : Header → Type 0 = IsHeader in
    subst P s.1 (record {
      few = h.few_fields;
      a_bunch = h.a_bunch;
      named = h.named;
      leads = λ two. state_leads (state_in m) t f h.leads two;
    })

module _ (b : Block) (i : ℕ) (h : Header) (block : IsBlock b) (can : CanStand b i h.name h.size) (ok : IsHeader h) where
  fits : i + 4 ≤ length b.words
  fits = let inside = can.inside in let all = block.all_words in omega arith

  within : i < 1024
  within = let inside = can.inside in omega arith

  begins_same : is_start (starts_with b.starts i) i ≡ true
  begins_same = is_start-with_same b.starts i within block.all_starts

  begins_other : (j : ℕ) → j ≢ i → is_start (starts_with b.starts i) j ≡ is_start b.starts j
  begins_other j ne = is_start-with_other b.starts i j within block.all_starts ne

  -- the words outside the four stay
  pub word-with_header : (k : ℕ) → (k < i) ⊎ (i + 4 ≤ k) → slice_index (words_with b.words i h) k ≡ slice_index b.words k
  word-with_header k apart = four_others b.words i (mark_of h) h.name (third_of h.state (held_moves (slice_index b.words i) (slice_index b.words (i + 2)))) (fourth_of h.state (slice_index b.words (i + 3))) fits k apart

  first_is : slice_index (words_with b.words i h) i ≡ mark_of h
  first_is = four_first b.words i (mark_of h) h.name (third_of h.state (held_moves (slice_index b.words i) (slice_index b.words (i + 2)))) (fourth_of h.state (slice_index b.words (i + 3))) fits

  second_is : slice_index (words_with b.words i h) (i + 1) ≡ h.name
  second_is = four_second b.words i (mark_of h) h.name (third_of h.state (held_moves (slice_index b.words i) (slice_index b.words (i + 2)))) (fourth_of h.state (slice_index b.words (i + 3))) fits

  third_is : slice_index (words_with b.words i h) (i + 2) ≡ third_of h.state (held_moves (slice_index b.words i) (slice_index b.words (i + 2)))
  third_is = four_third b.words i (mark_of h) h.name (third_of h.state (held_moves (slice_index b.words i) (slice_index b.words (i + 2)))) (fourth_of h.state (slice_index b.words (i + 3))) fits

  fourth_is : slice_index (words_with b.words i h) (i + 3) ≡ fourth_of h.state (slice_index b.words (i + 3))
  fourth_is = four_fourth b.words i (mark_of h) h.name (third_of h.state (held_moves (slice_index b.words i) (slice_index b.words (i + 2)))) (fourth_of h.state (slice_index b.words (i + 3))) fits

  -- the header that was set stands there
  pub header_in-with_same : header_in (with_header b i h) i ≡ Some h
  header_in-with_same =
      rw (begins_same, first_is, second_is, third_is, fourth_is) (ap Some (header_of-words h (held_moves (slice_index b.words i) (slice_index b.words (i + 2))) (slice_index b.words (i + 3)) ok))

  -- a header elsewhere lies apart
  lies_apart : (j : ℕ) → j ≢ i → is_start b.starts j ≡ true → (j + 4 + size_in (slice_index b.words j) ≤ i) ⊎ (i + 4 + h.size ≤ j)
  lies_apart j ne begins = let inside = block.inside j begins in can.alone j _ (omega arith) (stands b j begins) ne

  -- its words stay
  kept : (j k : ℕ) → j ≢ i → is_start b.starts j ≡ true → j ≤ k → k < j + 4 → slice_index (words_with b.words i h) k ≡ slice_index b.words k
  kept j k ne begins low high =
      word-with_header k (elim (lies_apart j ne begins) [ inl before ↦ inl (omega arith) | inr after ↦ inr (omega arith) ])

  -- and so do all other headers
  pub header_in-with_other : (j : ℕ) → j ≢ i → header_in (with_header b i h) j ≡ header_in b j
  header_in-with_other j ne =
      elim (cases_Bool (is_start b.starts j)) [
        | inl begins ↦
            let k0 = kept j j ne begins (omega arith) (omega arith) in
            let k1 = kept j (j + 1) ne begins (omega arith) (omega arith) in
            let k2 = kept j (j + 2) ne begins (omega arith) (omega arith) in
            let k3 = kept j (j + 3) ne begins (omega arith) (omega arith) in
            rw (begins_other j ne, k0, k1, k2, k3)
        | inr none ↦ rw (begins_other j ne, none)
      ]

  size_is : size_in (slice_index (words_with b.words i h) i) ≡ h.size
  size_is = rw first_is (mark-size h ok)

  size_kept : (j : ℕ) → j ≢ i → is_start b.starts j ≡ true → size_in (slice_index (words_with b.words i h) j) ≡ size_in (slice_index b.words j)
  size_kept j ne begins = ap size_in (kept j j ne begins (omega arith) (omega arith))

  was : (j : ℕ) → j ≢ i → is_start (starts_with b.starts i) j ≡ true → is_start b.starts j ≡ true
  was j ne begins = sym (begins_other j ne) ∙ begins

  headers_after : (j : ℕ) → is_start (starts_with b.starts i) j ≡ true → (j ≡ i) ⊎ (j ≡ i → ⊥) → IsHeaderWords (slice_index (words_with b.words i h) j) (slice_index (words_with b.words i h) (j + 1)) (slice_index (words_with b.words i h) (j + 2)) (slice_index (words_with b.words i h) (j + 3))
  headers_after j begins (inl same) =
      rw (same, first_is, second_is, third_is, fourth_is) (IsHeaderWords-words h (held_moves (slice_index b.words i) (slice_index b.words (i + 2))) (slice_index b.words (i + 3)) ok)
  headers_after j begins (inr ne) =
      let old = was j ne begins in
      let k0 = kept j j ne old (omega arith) (omega arith) in
      let k1 = kept j (j + 1) ne old (omega arith) (omega arith) in
      let k2 = kept j (j + 2) ne old (omega arith) (omega arith) in
      let k3 = kept j (j + 3) ne old (omega arith) (omega arith) in
      rw (k0, k1, k2, k3) (block.headers j old)

  inside_after : (j : ℕ) → is_start (starts_with b.starts i) j ≡ true → (j ≡ i) ⊎ (j ≡ i → ⊥) → j + 4 + size_in (slice_index (words_with b.words i h) j) ≤ 1024
  inside_after j begins (inl same) = rw (same, size_is) can.inside
  inside_after j begins (inr ne) = let old = was j ne begins in rw (size_kept j ne old) (block.inside j old)

  apart_after : (j k : ℕ) → is_start (starts_with b.starts i) j ≡ true → is_start (starts_with b.starts i) k ≡ true → j < k → (j ≡ i) ⊎ (j ≡ i → ⊥) → (k ≡ i) ⊎ (k ≡ i → ⊥) → j + 4 + size_in (slice_index (words_with b.words i h) j) ≤ k
  apart_after j k bj bk lt (inl sj) (inl sk) = absurd (omega arith)
  apart_after j k bj bk lt (inl sj) (inr nk) =
      rw (sj, size_is) (elim (lies_apart k nk (was k nk bk)) [ inl before ↦ absurd (omega arith) | inr after ↦ after ])
  apart_after j k bj bk lt (inr nj) (inl sk) =
      let old = was j nj bj in
      rw (size_kept j nj old) (elim (lies_apart j nj old) [ inl before ↦ omega arith | inr after ↦ absurd (omega arith) ])
  apart_after j k bj bk lt (inr nj) (inr nk) =
      let old = was j nj bj in rw (size_kept j nj old) (block.apart j k old (was k nk bk) lt)

  pub IsBlock-with_header : IsBlock (with_header b i h)
  IsBlock-with_header = record {
    a_home = block.a_home;
    a_number = block.a_number;
    few_numbers = block.few_numbers;
    all_words = length-four b.words i (mark_of h) h.name (third_of h.state (held_moves (slice_index b.words i) (slice_index b.words (i + 2)))) (fourth_of h.state (slice_index b.words (i + 3))) ∙ block.all_words;
    all_starts = length-set b.starts (i / 64) _ ∙ block.all_starts;
    headers = λ j begins. headers_after j begins (cases_eq j i);
    inside = λ j begins. inside_after j begins (cases_eq j i);
    apart = λ j k bj bk lt. apart_after j k bj bk lt (cases_eq j i) (cases_eq k i);
  }
