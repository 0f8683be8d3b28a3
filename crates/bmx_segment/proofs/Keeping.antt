-- What a change of one block means for headers and words by their addresses.
use Rattle.std.proofs.Common.{◌≡◌, ◌≢◌, ◌⊎◌, ℕ, ◌+◌, ◌-◌, ◌^◌, ◌<◌, ◌≤◌, true, false, List, length, Option, Some, None, arith, refl, sym, ap, ◌∙◌, inl, inr}
use Rattle.std.specs.Prelude.{slice_index, unwrap_or, ◌==◌, if◌then◌else◌, is_some}
use Rattle.std.specs.Option.{option_and_then, option_map}
use Rattle.std.proofs.lemmas.Bool.{cases_eq, cases_lt}
use Rattle.std.proofs.lemmas.Bool.Decides.{nat_tests}
use Rattle.bmx_types.specs.Words.{index_of}
use Rattle.bmx_segment.specs.Headers.{size_in, IsHeader, IsLive, with_kind_at}
use Rattle.bmx_segment.specs.Inside.Blocks.{with_words}
use Rattle.bmx_segment.specs.Inside.Stores.{Fills}
use Rattle.bmx_segment.proofs.Filling.{header_in-filled, word-filled, word-outside}
use Rattle.bmx_segment.specs.Blocks.{is_start, Block, CanStand, header_in, with_header, with_field, blank_block}
use Rattle.bmx_segment.specs.Stores.{segment_key, key_at, block_at, header_at, word_at, word_in, is_between, Maps, Sets, Lays, Writes, Drops}
use Rattle.bmx_segment.specs.Inside.Blocks.{IsBlock}
use Rattle.bmx_types.specs.Updates.{Puts}
use Rattle.bmx_segment.specs.declared.headers.Header.{Header}
use Rattle.bmx_segment.proofs.Found.{chosen, passed}
use Rattle.bmx_segment.proofs.Standing.{header_in-with_same, header_in-with_other, word-with_header}
use Rattle.bmx_segment.proofs.Fields.{header_in-with_field_same, header_in-with_field_other, word-with_field, word-with_field_same, header_in-blank, word-blank}

-- an address is what its segment and its index make it
same_base : (x a : ℕ) → key_at x ≡ key_at a → x + index_of a ≡ a + index_of x
same_base x a same = omega arith

same_address : (x a : ℕ) → key_at x ≡ key_at a → index_of x ≡ index_of a → x ≡ a
same_address x a same index = let base = same_base x a same in omega arith

-- a later word of the same segment
later_key : (a k : ℕ) → index_of a + k < 2 ^ 32 → key_at (a + k) ≡ key_at a
later_key a k within = omega arith

later_index : (a k : ℕ) → index_of a + k < 2 ^ 32 → index_of (a + k) ≡ index_of a + k
later_index a k within = omega arith

pub header_at-in : (bs : List Block) (a : ℕ) (o : Option Block) → block_at bs (key_at a) ≡ o → header_at bs a ≡ option_and_then (λ (b : Block). header_in b (index_of a)) o
header_at-in bs a o e = ap (option_and_then (λ (b : Block). header_in b (index_of a))) e

word_at-in : (bs : List Block) (a : ℕ) (o : Option Block) → block_at bs (key_at a) ≡ o → word_at bs a ≡ word_in o (index_of a)
word_at-in bs a o e = ap (λ (o : Option Block). word_in o (index_of a)) e

-- where the block of an address stays, so do its header and its word
header_kept : (old new : List Block) (a : ℕ) → block_at new (key_at a) ≡ block_at old (key_at a) → header_at new a ≡ header_at old a
header_kept old new a same = header_at-in new a (block_at old (key_at a)) same

word_kept : (old new : List Block) (a : ℕ) → block_at new (key_at a) ≡ block_at old (key_at a) → word_at new a ≡ word_at old a
word_kept old new a same = word_at-in new a (block_at old (key_at a)) same

module _ (old new : List Block) (a : ℕ) (b c : Block) (is : block_at old (key_at a) ≡ Some b) (puts : Puts (block_at old) (block_at new) (key_at a) (Some c)) where
  -- an address in the changed segment
  now_there : (x : ℕ) → key_at x ≡ key_at a → block_at new (key_at x) ≡ Some c
  now_there x same = puts (key_at x) ∙ chosen (key_at x) (key_at a) (Some c) (block_at old (key_at x)) same

  was_there : (x : ℕ) → key_at x ≡ key_at a → block_at old (key_at x) ≡ Some b
  was_there x same = ap (block_at old) same ∙ is

  -- and one elsewhere
  elsewhere : (x : ℕ) → (key_at x ≡ key_at a → ⊥) → block_at new (key_at x) ≡ block_at old (key_at x)
  elsewhere x other = puts (key_at x) ∙ passed (key_at x) (key_at a) (Some c) (block_at old (key_at x)) other

  -- what is mapped stays mapped, and nothing else is
  mapped_kept : (k : ℕ) → is_some (block_at new k) ≡ is_some (block_at old k)
  mapped_kept k =
      elim (cases_eq k (key_at a)) [
        | inl same ↦
            ap is_some (puts k ∙ chosen k (key_at a) (Some c) (block_at old k) same)
            ∙ sym (ap is_some (ap (block_at old) same ∙ is))
        | inr other ↦ ap is_some (puts k ∙ passed k (key_at a) (Some c) (block_at old k) other)
      ]

-- a header that was set
module _ (old new : List Block) (a : ℕ) (h : Header) (b : Block) (is : block_at old (key_at a) ≡ Some b) (block : IsBlock b) (can : CanStand b (index_of a) h.name h.size) (ok : IsHeader h) (puts : Puts (block_at old) (block_at new) (key_at a) (Some (with_header b (index_of a) h))) where
  set_headers : (x : ℕ) → header_at new x ≡ (if a == x then Some h else header_at old x)
  set_headers x =
      let c : Block = with_header b (index_of a) h in
      elim (cases_eq (key_at x) (key_at a)) [
        | inl same ↦
            let n = header_at-in new x (Some c) (now_there old new a b c is puts x same) in
            let o = header_at-in old x (Some b) (was_there old new a b c is puts x same) in
            elim (cases_eq (index_of x) (index_of a)) [
              | inl index ↦
                  let at = same_address x a same index in
                  n ∙ (ap (header_in c) index ∙ (header_in-with_same b (index_of a) h block can ok ∙ sym (chosen x a (Some h) (header_at old x) at)))
              | inr apart ↦
                  let off : x ≡ a → ⊥ = λ e. apart (ap index_of e) in
                  n ∙ (header_in-with_other b (index_of a) h block can ok (index_of x) apart ∙ (sym o ∙ sym (passed x a (Some h) (header_at old x) off)))
            ]
        | inr other ↦
            let off : x ≡ a → ⊥ = λ e. other (ap key_at e) in
            header_kept old new x (elsewhere old new a b c is puts x other) ∙ sym (passed x a (Some h) (header_at old x) off)
      ]

  set_words : (x : ℕ) → (x < a) ⊎ (a + 4 ≤ x) → word_at new x ≡ word_at old x
  set_words x apart =
      let c : Block = with_header b (index_of a) h in
      elim (cases_eq (key_at x) (key_at a)) [
        | inl same ↦
            let base = same_base x a same in
            let n = word_at-in new x (Some c) (now_there old new a b c is puts x same) in
            let o = word_at-in old x (Some b) (was_there old new a b c is puts x same) in
            let outside : (index_of x < index_of a) ⊎ (index_of a + 4 ≤ index_of x) =
            elim apart [ inl before ↦ inl (omega arith) | inr after ↦ inr (omega arith) ] in
            n ∙ (word-with_header b (index_of a) h block can ok (index_of x) outside ∙ sym o)
        | inr other ↦ word_kept old new x (elsewhere old new a b c is puts x other)
      ]

  pub Sets-from : Sets old new a h
  Sets-from = record {
    blocks = rw is puts;
    mapped = λ k. mapped_kept old new a b (with_header b (index_of a) h) is puts k;
    headers = set_headers;
    words = set_words;
  }

-- a field that was written
module _ (old new : List Block) (a field n w : ℕ) (b : Block) (is : block_at old (key_at a) ≡ Some b) (block : IsBlock b) (h : Header) (there : header_in b (index_of a) ≡ Some h) (live : IsLive h.state) (has : field < h.size) (within : index_of a + 4 + field < 1024) (puts : Puts (block_at old) (block_at new) (key_at a) (Some (with_field b (index_of a) field n w))) where
  written_header : header_at new a ≡ option_map (λ (h : Header). record h { state = with_kind_at h.state field n }) (header_at old a)
  written_header =
      let c : Block = with_field b (index_of a) field n w in
      let e = header_at-in new a (Some c) (now_there old new a b c is puts a refl) in
      let o = header_at-in old a (Some b) is in
      e ∙ (header_in-with_field_same b (index_of a) field n w block h there live has
      ∙ sym (ap (option_map (λ (h : Header). record h { state = with_kind_at h.state field n })) (o ∙ there)))

  written_headers : (x : ℕ) → x ≢ a → header_at new x ≡ header_at old x
  written_headers x off =
      let c : Block = with_field b (index_of a) field n w in
      elim (cases_eq (key_at x) (key_at a)) [
        | inl same ↦
            let e = header_at-in new x (Some c) (now_there old new a b c is puts x same) in
            let o = header_at-in old x (Some b) (was_there old new a b c is puts x same) in
            let apart : index_of x ≢ index_of a = λ index. off (same_address x a same index) in
            e ∙ (header_in-with_field_other b (index_of a) field n w block h there live has (index_of x) apart ∙ sym o)
        | inr other ↦ header_kept old new x (elsewhere old new a b c is puts x other)
      ]

  written_word : word_at new (a + 4 + field) ≡ w
  written_word =
      let c : Block = with_field b (index_of a) field n w in
      let one : a + 4 + field ≡ a + (4 + field) = omega arith in
      let same : key_at (a + 4 + field) ≡ key_at a = ap key_at one ∙ later_key a (4 + field) (omega arith) in
      let index : index_of (a + 4 + field) ≡ index_of a + 4 + field = ap index_of one ∙ (later_index a (4 + field) (omega arith) ∙ omega arith) in
      word_at-in new (a + 4 + field) (Some c) (now_there old new a b c is puts (a + 4 + field) same)
      ∙ (ap (slice_index c.words) index ∙ word-with_field_same b (index_of a) field n w block h there live has)

  written_words : (x : ℕ) → x ≢ a + 3 → x ≢ a + 4 + field → word_at new x ≡ word_at old x
  written_words x not_kinds not_field =
      let c : Block = with_field b (index_of a) field n w in
      elim (cases_eq (key_at x) (key_at a)) [
        | inl same ↦
            let base = same_base x a same in
            let e = word_at-in new x (Some c) (now_there old new a b c is puts x same) in
            let o = word_at-in old x (Some b) (was_there old new a b c is puts x same) in
            let off_kinds : index_of x ≢ index_of a + 3 = λ i. not_kinds (omega arith) in
            let off_field : index_of x ≢ index_of a + 4 + field = λ i. not_field (omega arith) in
            e ∙ (word-with_field b (index_of a) field n w block h there live has (index_of x) off_kinds off_field ∙ sym o)
        | inr other ↦ word_kept old new x (elsewhere old new a b c is puts x other)
      ]

  pub Writes-from : Writes old new a field n w
  Writes-from = record {
    blocks = rw is puts;
    mapped = λ k. mapped_kept old new a b (with_field b (index_of a) field n w) is puts k;
    header = written_header;
    headers = written_headers;
    word = written_word;
    words = written_words;
  }

-- words behind a header that were written
module _ (old new : List Block) (a n : ℕ) (ws : List ℕ) (b : Block) (is : block_at old (key_at a) ≡ Some b) (block : IsBlock b) (begins : is_start b.starts (index_of a) ≡ true) (size : size_in (slice_index b.words (index_of a)) ≡ n) (enough : n ≤ length ws) (puts : Puts (block_at old) (block_at new) (key_at a) (Some (with_words b (index_of a) n ws))) where
  filled_headers : (x : ℕ) → header_at new x ≡ header_at old x
  filled_headers x =
      let c : Block = with_words b (index_of a) n ws in
      elim (cases_eq (key_at x) (key_at a)) [
        | inl same ↦
            header_at-in new x (Some c) (now_there old new a b c is puts x same)
            ∙ (header_in-filled b (index_of a) n ws block begins size enough (index_of x) ∙ sym (header_at-in old x (Some b) (was_there old new a b c is puts x same)))
        | inr other ↦ header_kept old new x (elsewhere old new a b c is puts x other)
      ]

  filled_fields : (i : ℕ) → i < n → word_at new (a + 4 + i) ≡ slice_index ws i
  filled_fields i lt =
      let c : Block = with_words b (index_of a) n ws in
      let inside = block.inside (index_of a) begins in
      let one : a + 4 + i ≡ a + (4 + i) = omega arith in
      let same : key_at (a + 4 + i) ≡ key_at a = ap key_at one ∙ later_key a (4 + i) (omega arith) in
      let index : index_of (a + 4 + i) ≡ index_of a + 4 + i = ap index_of one ∙ (later_index a (4 + i) (omega arith) ∙ omega arith) in
      word_at-in new (a + 4 + i) (Some c) (now_there old new a b c is puts (a + 4 + i) same)
      ∙ (ap (slice_index c.words) index ∙ word-filled b (index_of a) n ws block begins size enough i lt)

  filled_words : (x : ℕ) → (x < a + 4) ⊎ (a + 4 + n ≤ x) → word_at new x ≡ word_at old x
  filled_words x apart =
      let c : Block = with_words b (index_of a) n ws in
      elim (cases_eq (key_at x) (key_at a)) [
        | inl same ↦
            let base = same_base x a same in
            let outside : (index_of x < index_of a + 4) ⊎ (index_of a + 4 + n ≤ index_of x) =
            elim apart [ inl before ↦ inl (omega arith) | inr after ↦ inr (omega arith) ] in
            word_at-in new x (Some c) (now_there old new a b c is puts x same)
            ∙ (word-outside b (index_of a) n ws block begins size enough (index_of x) outside ∙ sym (word_at-in old x (Some b) (was_there old new a b c is puts x same)))
        | inr other ↦ word_kept old new x (elsewhere old new a b c is puts x other)
      ]

  pub Fills-from : Fills old new a n ws
  Fills-from = record {
    blocks = rw is puts;
    mapped = λ k. mapped_kept old new a b (with_words b (index_of a) n ws) is puts k;
    headers = filled_headers;
    fields = filled_fields;
    words = filled_words;
  }

-- an object whose header was set and whose fields were written
pub Lays-from : (old mid new : List Block) (a : ℕ) (h : Header) (ws : List ℕ) → Sets old mid a h → Fills mid new a h.size ws → Lays old new a h (λ i. slice_index ws i)
Lays-from old mid new a h ws sets fills = record {
  mapped = λ k. fills.mapped k ∙ sets.mapped k;
  headers = λ x. fills.headers x ∙ sets.headers x;
  fields = fills.fields;
  words = λ x away.
      elim away [
        | inl before ↦ fills.words x (inl (omega arith)) ∙ sets.words x (inl before)
        | inr after ↦ fills.words x (inr after) ∙ sets.words x (inr (omega arith))
      ];
}

-- ---- mapping

between_one : (k key : ℕ) → k ≡ key → is_between k key 1 ≡ true
between_one k key same = grind (arith, nat_tests)

not_between_one : (k key : ℕ) → (k ≡ key → ⊥) → is_between k key 1 ≡ false
not_between_one k key other = grind (arith, nat_tests)

-- a segment that was mapped stays as it was
pub Maps-there : (old : List Block) (home number : ℕ) (b : Block) → block_at old (segment_key home number) ≡ Some b → Maps old old home number 1
Maps-there old home number b is = record {
  blocks = λ k.
      elim (cases_eq k (segment_key home number)) [
        | inl same ↦
            let e : block_at old k ≡ Some b = ap (block_at old) same ∙ is in
            rw (between_one k (segment_key home number) same, e)
        | inr other ↦ rw (not_between_one k (segment_key home number) other)
      ];
  headers = λ a. refl;
  words = λ a. refl;
}

-- a segment that wasn't is blank
module _ (old new : List Block) (home number : ℕ) (none : block_at old (segment_key home number) ≡ None) (puts : Puts (block_at old) (block_at new) (segment_key home number) (Some (blank_block home number))) where
  mapped_there : (k : ℕ) → k ≡ segment_key home number → block_at new k ≡ Some (blank_block home number)
  mapped_there k same = puts k ∙ chosen k (segment_key home number) (Some (blank_block home number)) (block_at old k) same

  mapped_elsewhere : (k : ℕ) → (k ≡ segment_key home number → ⊥) → block_at new k ≡ block_at old k
  mapped_elsewhere k other = puts k ∙ passed k (segment_key home number) (Some (blank_block home number)) (block_at old k) other

  pub Maps-new : Maps old new home number 1
  Maps-new = record {
    blocks = λ k.
        elim (cases_eq k (segment_key home number)) [
          | inl same ↦
              let o : block_at old k ≡ None = ap (block_at old) same ∙ none in
              let that : k - segment_key home 0 ≡ number = omega arith in
              rw (between_one k (segment_key home number) same, o, that) (mapped_there k same)
          | inr other ↦ rw (not_between_one k (segment_key home number) other) (mapped_elsewhere k other)
        ];
    headers = λ a.
        elim (cases_eq (key_at a) (segment_key home number)) [
          | inl same ↦
              header_at-in new a (Some (blank_block home number)) (mapped_there (key_at a) same)
              ∙ (header_in-blank home number (index_of a) ∙ sym (header_at-in old a None (ap (block_at old) same ∙ none)))
          | inr other ↦ header_kept old new a (mapped_elsewhere (key_at a) other)
        ];
    words = λ a.
        elim (cases_eq (key_at a) (segment_key home number)) [
          | inl same ↦
              word_at-in new a (Some (blank_block home number)) (mapped_there (key_at a) same)
              ∙ (word-blank (index_of a) ∙ sym (word_at-in old a None (ap (block_at old) same ∙ none)))
          | inr other ↦ word_kept old new a (mapped_elsewhere (key_at a) other)
        ];
  }

-- ---- dropping

pub Drops-from : (old new : List Block) (home number : ℕ) → Puts (block_at old) (block_at new) (segment_key home number) None → Drops old new home number
Drops-from old new home number puts =
    let key : ℕ = segment_key home number in
    record {
      blocks = puts;
      headers = λ a.
          elim (cases_eq (key_at a) key) [
            | inl same ↦
                header_at-in new a None (puts (key_at a) ∙ chosen (key_at a) key None (block_at old (key_at a)) same)
                ∙ sym (chosen {X = Option Header} (key_at a) key None (header_at old a) same)
            | inr other ↦
                header_kept old new a (puts (key_at a) ∙ passed (key_at a) key None (block_at old (key_at a)) other)
                ∙ sym (passed {X = Option Header} (key_at a) key None (header_at old a) other)
          ];
      words = λ a other. word_kept old new a (puts (key_at a) ∙ passed (key_at a) key None (block_at old (key_at a)) other);
    }

-- ---- some segments in a row

between_none : (k first : ℕ) → is_between k first 0 ≡ false
between_none k first = elim (cases_lt k first) [ inl lt ↦ grind (arith, nat_tests) | inr le ↦ grind (arith, nat_tests) ]

between_within : (k first more : ℕ) → first ≤ k → k < first + more → is_between k first more ≡ true
between_within k first more low high = grind (arith, nat_tests)

between_outside : (k first more : ℕ) → (k < first) ⊎ (first + more ≤ k) → is_between k first more ≡ false
between_outside k first more (inl low) = grind (arith, nat_tests)
between_outside k first more (inr high) = elim (cases_lt k first) [ inl lt ↦ grind (arith, nat_tests) | inr le ↦ grind (arith, nat_tests) ]

-- none is mapped yet
pub Maps-none : (old : List Block) (home first : ℕ) → Maps old old home first 0
Maps-none old home first = record {
  blocks = λ k. rw (between_none k (segment_key home first));
  headers = λ a. refl;
  words = λ a. refl;
}

-- one more is mapped
pub Maps-more : (old mid new : List Block) (home first more : ℕ) → Maps old mid home first more → Maps mid new home (first + more) 1 → Maps old new home first (more + 1)
Maps-more old mid new home first more before one = record {
  blocks = λ k.
      let key : ℕ = segment_key home first in
      let next : segment_key home (first + more) ≡ key + more = omega arith in
      let b = before.blocks k in
      let o = one.blocks k in
      elim (cases_eq k (key + more)) [
        | inl at ↦
            let mid_is : block_at mid k ≡ block_at old k = rw (between_outside k key more (inr (omega arith))) at b in
            let new_is : block_at new k ≡ Some (unwrap_or (block_at mid k) (blank_block home (k - segment_key home 0))) =
            rw (between_one k (segment_key home (first + more)) (omega arith)) at o in
            rw (between_within k key (more + 1) (omega arith) (omega arith), ← mid_is) new_is
        | inr off ↦
            let new_is : block_at new k ≡ block_at mid k =
            rw (not_between_one k (segment_key home (first + more)) (λ e. off (e ∙ next))) at o in
            elim (cases_lt k key) [
              | inl low ↦
                  let mid_is : block_at mid k ≡ block_at old k = rw (between_outside k key more (inl low)) at b in
                  rw (between_outside k key (more + 1) (inl low)) (new_is ∙ mid_is)
              | inr at_least ↦
                  elim (cases_lt k (key + more)) [
                    | inl inside ↦
                        let mid_is : block_at mid k ≡ Some (unwrap_or (block_at old k) (blank_block home (k - segment_key home 0))) =
                        rw (between_within k key more at_least inside) at b in
                        rw (between_within k key (more + 1) at_least (omega arith)) (new_is ∙ mid_is)
                    | inr beyond ↦
                        let mid_is : block_at mid k ≡ block_at old k = rw (between_outside k key more (inr beyond)) at b in
                        rw (between_outside k key (more + 1) (inr (omega arith))) (new_is ∙ mid_is)
                  ]
            ]
      ];
  headers = λ a. one.headers a ∙ before.headers a;
  words = λ a. one.words a ∙ before.words a;
}
