-- A block whose words behind a header are written, and how many live headers a changed block has.
use Rattle.std.proofs.Common.{◌≡◌, ◌≢◌, ◌⊎◌, ℕ, ◌+◌, ◌-◌, ◌<◌, ◌≤◌, ◌++◌, zero, suc, true, List, Some, length, get_or, take, drop, arith, refl, sym, ap, ◌∙◌, inl, inr}
use Rattle.std.specs.Prelude.{slice_index}
use Rattle.std.proofs.lemmas.Bool.{cases_eq, cases_order, cases_Bool}
use Rattle.std.proofs.lemmas.List.{length-append, length-take, length-drop, get_or-take, get_or-drop, get_or-append_right, get_or_append_left}
use Rattle.bmx_segment.specs.Headers.{size_in, live_number, with_kind_at, IsHeader, IsHeaderWords, IsLive}
use Rattle.bmx_segment.specs.declared.headers.State.{State}
use Rattle.bmx_segment.specs.declared.headers.State.TheVariants.{Live, Forwarded, Dead}
use Rattle.bmx_segment.proofs.Standing.{IsBlock-with_header, header_in-with_same, header_in-with_other}
use Rattle.bmx_segment.proofs.Fields.{live_below-le, IsBlock-with_field, header_in-with_field_same, header_in-with_field_other}
use Rattle.bmx_segment.specs.Blocks.{Block, is_start, header_in, CanStand, with_header, with_field, live_at, live_below, live_in}
use Rattle.bmx_segment.specs.Inside.Blocks.{IsBlock, with_words}
use Rattle.bmx_segment.specs.declared.headers.Header.{Header}

-- three lists in a row
module _ (xs ys zs : List ℕ) (a n : ℕ) (first : length xs ≡ a) (second : length ys ≡ n) where
  pub row_first : (k : ℕ) → k < a → get_or (xs ++ ys ++ zs) k 0 ≡ get_or xs k 0
  row_first k lt =
      let l = length-append xs ys in
      get_or_append_left (xs ++ ys) zs 0 k (omega arith) ∙ get_or_append_left xs ys 0 k (omega arith)

  pub row_second : (j : ℕ) → j < n → get_or (xs ++ ys ++ zs) (a + j) 0 ≡ get_or ys j 0
  row_second j lt =
      let l = length-append xs ys in
      let back : a + j - a ≡ j = omega arith in
      get_or_append_left (xs ++ ys) zs 0 (a + j) (omega arith) ∙ (get_or-append_right xs ys a (a + j) 0 first (omega arith) ∙ ap (λ k. get_or ys k 0) back)

  pub row_third : (k : ℕ) → a + n ≤ k → get_or (xs ++ ys ++ zs) k 0 ≡ get_or zs (k - (a + n)) 0
  row_third k le = let l = length-append xs ys in get_or-append_right (xs ++ ys) zs (a + n) k 0 (omega arith) le

module _ (b : Block) (i n : ℕ) (ws : List ℕ) (block : IsBlock b) (begins : is_start b.starts i ≡ true) (size : size_in (slice_index b.words i) ≡ n) (enough : n ≤ length ws) where
  fits : i + 4 + n ≤ length b.words
  fits = let inside = block.inside i begins in let all = block.all_words in omega arith

  first_long : length (take (i + 4) b.words) ≡ i + 4
  first_long = let l = length-take (i + 4) b.words in let f = fits in omega arith

  second_long : length (take n ws) ≡ n
  second_long = let l = length-take n ws in omega arith

  length-filled : length (with_words b i n ws).words ≡ length b.words
  length-filled =
      let f = fits in
      let l = length-append (take (i + 4) b.words) (take n ws) in
      let m = length-append (take (i + 4) b.words ++ take n ws) (drop (i + 4 + n) b.words) in
      let d = length-drop (i + 4 + n) b.words in
      let x = first_long in
      let y = second_long in
      omega arith

  before : (k : ℕ) → k < i + 4 → slice_index (with_words b i n ws).words k ≡ slice_index b.words k
  before k lt = row_first (take (i + 4) b.words) (take n ws) (drop (i + 4 + n) b.words) (i + 4) n first_long second_long k lt ∙ get_or-take (i + 4) b.words k 0 lt

  -- the words that were written
  pub word-filled : (j : ℕ) → j < n → slice_index (with_words b i n ws).words (i + 4 + j) ≡ slice_index ws j
  word-filled j lt = row_second (take (i + 4) b.words) (take n ws) (drop (i + 4 + n) b.words) (i + 4) n first_long second_long j lt ∙ get_or-take n ws j 0 lt

  after : (k : ℕ) → i + 4 + n ≤ k → slice_index (with_words b i n ws).words k ≡ slice_index b.words k
  after k le =
      let back : i + 4 + n + (k - (i + 4 + n)) ≡ k = omega arith in
      row_third (take (i + 4) b.words) (take n ws) (drop (i + 4 + n) b.words) (i + 4) n first_long second_long k le
      ∙ (get_or-drop (i + 4 + n) b.words (k - (i + 4 + n)) 0 ∙ ap (λ m. get_or b.words m 0) back)

  -- and the other words
  pub word-outside : (k : ℕ) → (k < i + 4) ⊎ (i + 4 + n ≤ k) → slice_index (with_words b i n ws).words k ≡ slice_index b.words k
  word-outside k (inl lt) = before k lt
  word-outside k (inr le) = after k le

  kept : (j k : ℕ) → is_start b.starts j ≡ true → j ≤ k → k < j + 4 → slice_index (with_words b i n ws).words k ≡ slice_index b.words k
  kept j k there low high =
      elim (cases_order i j) [
        | inl same ↦ before k (omega arith)
        | inr rest ↦ elim rest [
          | inl lt ↦ let far = block.apart i j begins there lt in after k (omega arith)
          | inr gt ↦ let far = block.apart j i there begins gt in before k (omega arith)
        ]
      ]

  -- no header changes
  pub header_in-filled : (j : ℕ) → header_in (with_words b i n ws) j ≡ header_in b j
  header_in-filled j =
      elim (cases_Bool (is_start b.starts j)) [
        | inl there ↦
            let k0 = kept j j there (omega arith) (omega arith) in
            let k1 = kept j (j + 1) there (omega arith) (omega arith) in
            let k2 = kept j (j + 2) there (omega arith) (omega arith) in
            let k3 = kept j (j + 3) there (omega arith) (omega arith) in
            rw (there, k0, k1, k2, k3)
        | inr none ↦ rw none
      ]

  headers_now : (j : ℕ) → is_start b.starts j ≡ true → IsHeaderWords (slice_index (with_words b i n ws).words j) (slice_index (with_words b i n ws).words (j + 1)) (slice_index (with_words b i n ws).words (j + 2)) (slice_index (with_words b i n ws).words (j + 3))
  headers_now j there =
      let k0 = kept j j there (omega arith) (omega arith) in
      let k1 = kept j (j + 1) there (omega arith) (omega arith) in
      let k2 = kept j (j + 2) there (omega arith) (omega arith) in
      let k3 = kept j (j + 3) there (omega arith) (omega arith) in
      rw (k0, k1, k2, k3) (block.headers j there)

  pub IsBlock-filled : IsBlock (with_words b i n ws)
  IsBlock-filled = record {
    a_home = block.a_home;
    a_number = block.a_number;
    few_numbers = block.few_numbers;
    all_words = length-filled ∙ block.all_words;
    all_starts = block.all_starts;
    headers = headers_now;
    inside = λ j there. rw (kept j j there (omega arith) (omega arith)) (block.inside j there);
    apart = λ j k bj bk lt. rw (kept j j bj (omega arith) (omega arith)) (block.apart j k bj bk lt);
  }

  pub live-filled : live_in (with_words b i n ws) ≡ live_in b
  live-filled = all (length b.words) ∙ refl
    where
      below : (m : ℕ) → live_below (with_words b i n ws) m ≡ live_below b m
      below zero = refl
      below (suc m) = λ k. below m k + live_at (header_in-filled m k)

      all : (m : ℕ) → live_in (with_words b i n ws) ≡ live_in b
      all m = ap (live_below (with_words b i n ws)) length-filled ∙ below (length b.words)

-- ---- live headers

-- where each word begins as many live headers, as many are below
pub live-same : (a b : Block) → ((j : ℕ) → live_at (header_in a j) ≡ live_at (header_in b j)) → (n : ℕ) → live_below a n ≡ live_below b n
live-same a b same zero = refl
live-same a b same (suc n) = λ k. live-same a b same n k + same n k

module _ (a b : Block) (i : ℕ) (same : (j : ℕ) → j ≢ i → live_at (header_in a j) ≡ live_at (header_in b j)) where
  live_before : (n : ℕ) → n ≤ i → live_below a n ≡ live_below b n
  live_before zero le = refl
  live_before (suc n) le = λ k. live_before n (omega arith) k + same n (omega arith) k

  -- where one word's header changes, so does the number
  pub live_after : (n : ℕ) → i < n → live_below a n + live_at (header_in b i) ≡ live_below b n + live_at (header_in a i)
  live_after zero lt = absurd (omega arith)
  live_after (suc n) lt =
      elim (cases_eq n i) [
        | inl at ↦
            let l = live_before n (omega arith) in
            let x : live_at (header_in a n) ≡ live_at (header_in a i) = ap (λ k. live_at (header_in a k)) at in
            let y : live_at (header_in b n) ≡ live_at (header_in b i) = ap (λ k. live_at (header_in b k)) at in
            omega arith
        | inr off ↦ let l = live_after n (omega arith) in let x = same n off in omega arith
      ]

-- a header is among those that are counted
pub live_at-below : (b : Block) (i n : ℕ) → i < n → live_at (header_in b i) ≤ live_below b n
live_at-below b i zero lt = absurd (omega arith)
live_at-below b i (suc n) lt =
    elim (cases_eq i n) [
      | inl at ↦ let x : live_at (header_in b i) ≡ live_at (header_in b n) = ap (λ k. live_at (header_in b k)) at in omega arith
      | inr off ↦ let l = live_at-below b i n (omega arith) in omega arith
    ]

with_kind-live : (s : State) (i n : ℕ) → live_number (with_kind_at s i n) ≡ live_number s
with_kind-live (Live moves kinds) i n = refl
with_kind-live (Forwarded to) i n = refl
with_kind-live Dead i n = refl

-- a field that is written leaves the live headers
pub live-with_field : (b : Block) (i field n w : ℕ) → IsBlock b → (h : Header) → header_in b i ≡ Some h → IsLive h.state → field < h.size → live_in (with_field b i field n w) ≡ live_in b
live-with_field b i field n w block h is live has =
    let c : Block = with_field b i field n w in
    let long : length c.words ≡ length b.words = (IsBlock-with_field b i field n w block h is live has).all_words ∙ sym block.all_words in
    ap (live_below c) long
    ∙ live-same c b (λ j. elim (cases_eq j i) [
      | inl at ↦
          ap (λ k. live_at (header_in c k)) at
          ∙ (ap live_at (header_in-with_field_same b i field n w block h is live has)
          ∙ (with_kind-live h.state field n ∙ (sym (ap live_at is) ∙ ap (λ k. live_at (header_in b k)) (sym at))))
      | inr off ↦ ap live_at (header_in-with_field_other b i field n w block h is live has j off)
    ]) (length b.words)

-- a header that is set counts in place of the one that stood there
pub live-with_header : (b : Block) (i : ℕ) (h : Header) → IsBlock b → CanStand b i h.name h.size → IsHeader h → i < 1024 → live_in (with_header b i h) + live_at (header_in b i) ≡ live_in b + live_number h.state
live-with_header b i h block can ok within =
    let c : Block = with_header b i h in
    let long : length c.words ≡ length b.words = (IsBlock-with_header b i h block can ok).all_words ∙ sym block.all_words in
    let all = block.all_words in
    let changed = live_after c b i (λ j off. ap live_at (header_in-with_other b i h block can ok j off)) (length b.words) (omega arith) in
    let same : live_in c ≡ live_below c (length b.words) = ap (live_below c) long in
    let here : live_at (header_in c i) ≡ live_number h.state = ap live_at (header_in-with_same b i h block can ok) in
    omega arith

pub live_in-among : (b : Block) (i : ℕ) → IsBlock b → i < 1024 → live_at (header_in b i) ≤ live_in b
live_in-among b i block within = let all = block.all_words in live_at-below b i (length b.words) (omega arith)

pub live_in-le : (b : Block) → IsBlock b → live_in b ≤ 1024
live_in-le b block = let all = block.all_words in let le = live_below-le b (length b.words) in omega arith
