-- An object can lie at an address exactly where nothing bars it.
use Rattle.std.proofs.Common.{◌≡◌, ◌≢◌, ◌⊎◌, ℕ, ◌+◌, ◌^◌, ◌<◌, ◌≤◌, zero, suc, Bool, true, false, Option, Some, None, refl, sym, ap, ◌∙◌, inl, inr, arith}
use Rattle.std.specs.Prelude.{◌==◌, ◌&&◌, ◌||◌, not, nat_lt, if◌then◌else◌}
use Rattle.std.specs.Option.{option_map, option_map_or}
use Rattle.std.proofs.lemmas.Bool.{cases_eq, cases_lt, false≢true, or_parts, or_from, and_cases, and_from, and_parts, and_left, and_right, eq-eqb, ne_eqb, eqb-true, lt-ltb, le-ltb}
use Rattle.std.proofs.lemmas.Option.{none-some, same_Some}
use Rattle.bmx_types.specs.Words.{address_word, home_of, segment_of, index_of}
use Rattle.bmx_segment.specs.Stores.{key_at}
use Rattle.bmx_segment.specs.declared.headers.Header.{Header as HeaderWords}
use Rattle.bmx_replica.specs.Layouts.{Ground, LiesOn}
use Rattle.bmx_protocol.specs.Places.{Places, Header, overlaps, any_below, is_another, is_across, is_in_the_way, is_barred}

-- ## numbers and tests

pub none_below : (n : ℕ) (test : ℕ → Bool) → ((j : ℕ) → j < n → test j ≡ false) → any_below n test ≡ false
none_below zero test fails = refl
none_below (suc n) test fails = or_from (test n) (any_below n test) (fails n (omega arith)) (none_below n test (λ j small. fails j (omega arith)))

pub each_below : (n : ℕ) (test : ℕ → Bool) → any_below n test ≡ false → (j : ℕ) → j < n → test j ≡ false
each_below zero test fails j small = absurd (omega arith)
each_below (suc n) test fails j small =
    let parts = or_parts (test n) (any_below n test) fails in
    elim (cases_eq j n) [ inl last ↦ ap test last ∙ parts.0 | inr before ↦ each_below n test parts.1 j (omega arith) ]

pub not_below : (m n : ℕ) → nat_lt m n ≡ false → n ≤ m
not_below m n fails = elim (cases_lt m n) [ inl lt ↦ absurd (false≢true (sym fails ∙ lt-ltb m n lt)) | inr ge ↦ ge ]

apart : (i words j others : ℕ) → overlaps i words j others ≡ false → (j + others ≤ i) ⊎ (i + words ≤ j)
apart i words j others fails =
    elim (and_cases (nat_lt i (j + others)) (nat_lt j (i + words)) fails) [ inl behind ↦ inl (not_below i (j + others) behind) | inr before ↦ inr (not_below j (i + words) before) ]

no_overlap : (i words j others : ℕ) → (j + others ≤ i) ⊎ (i + words ≤ j) → overlaps i words j others ≡ false
no_overlap i words j others off =
    elim off [
      | inl behind ↦ and_left (nat_lt i (j + others)) (nat_lt j (i + words)) (le-ltb i (j + others) behind)
      | inr before ↦ and_right (nat_lt i (j + others)) (nat_lt j (i + words)) (le-ltb j (i + words) before)
    ]

pub not_false : (b : Bool) → not b ≡ false → b ≡ true
not_false true e = refl
not_false false e = absurd (false≢true (sym e))

-- ## addresses of one segment

same_word : (x : ℕ) → address_word (home_of x) (segment_of x) (index_of x) ≡ x
same_word x = omega arith

word_within : (x y : ℕ) → key_at y ≡ key_at x → address_word (home_of x) (segment_of x) (index_of y) ≡ y
word_within x y key = omega arith

key_within : (x j : ℕ) → j < 2 ^ 32 → key_at (address_word (home_of x) (segment_of x) j) ≡ key_at x
key_within x j small = omega arith

index_within : (x j : ℕ) → j < 2 ^ 32 → index_of (address_word (home_of x) (segment_of x) j) ≡ j
index_within x j small = omega arith

same_base : (x y : ℕ) → key_at y ≡ key_at x → y + index_of x ≡ x + index_of y
same_base x y key = omega arith

-- ## headers

-- the name and the size in a header
abbrev pub outline : Option Header → Option (ℕ × ℕ)
outline o = option_map (λ (h : Header). (h.name, h.size)) o

abbrev pub outline_in : Option HeaderWords → Option (ℕ × ℕ)
outline_in o = option_map (λ (h : HeaderWords). (h.name, h.size)) o

-- headers of one outline have one name and size, or there is none
pub record Matches (h : Header) (o : HeaderWords) : Type 0 where
  pub name : h.name ≡ o.name
  pub size : h.size ≡ o.size

found : (p : Option Header) (o : HeaderWords) → outline p ≡ outline_in (Some o) → (h : Header) × (p ≡ Some h) × Matches h o
found None o e = absurd (none-some (o.name, o.size) e)
found (Some h) o e =
    let same : (h.name, h.size) ≡ (o.name, o.size) = same_Some (h.name, h.size) (o.name, o.size) e in
    (h, refl, record { name = ap (λ (s : ℕ × ℕ). s.0) same; size = ap (λ (s : ℕ × ℕ). s.1) same })

found_in : (q : Option HeaderWords) (h : Header) → outline (Some h) ≡ outline_in q → (o : HeaderWords) × (q ≡ Some o) × Matches h o
found_in None h e = absurd (none-some (h.name, h.size) (sym e))
found_in (Some o) h e =
    let same : (h.name, h.size) ≡ (o.name, o.size) = same_Some (h.name, h.size) (o.name, o.size) e in
    (o, refl, record { name = ap (λ (s : ℕ × ℕ). s.0) same; size = ap (λ (s : ℕ × ℕ). s.1) same })

-- a ground has the headers of places, and the words that they handed out
pub record IsGround (me : ℕ) (a : Places) (g : Ground) : Type 0 where
  pub home : g.me ≡ me
  pub handed : (k : ℕ) → a.handed k ≡ g.given_out k
  pub headers : (x : ℕ) → outline (a.header x) ≡ outline_in (g.header x)

-- ## what is in the way

stands_apart : (name size i j : ℕ) (h : Header) → j ≢ i → is_in_the_way name size i j h ≡ false → (j + (4 + h.size) ≤ i) ⊎ (i + (4 + size) ≤ j)
stands_apart name size i j h off fails = apart i (4 + size) j (4 + h.size) (sym (ap (λ b. if b then is_another name size h else is_across size i j h) (ne_eqb j i off)) ∙ fails)

stands_there : (name size i : ℕ) (h : Header) → is_in_the_way name size i i h ≡ false → (h.name ≡ name) × (h.size ≡ size)
stands_there name size i h fails =
    let both = not_false (h.name == name && h.size == size) (sym (ap (λ b. if b then is_another name size h else is_across size i i h) (eq-eqb i i refl)) ∙ fails) in
    let parts = and_parts (h.name == name) (h.size == size) both in
    (eqb-true h.name name parts.0, eqb-true h.size size parts.1)

keeps_apart : (name size i j : ℕ) (h : Header) → j ≢ i → (j + (4 + h.size) ≤ i) ⊎ (i + (4 + size) ≤ j) → is_in_the_way name size i j h ≡ false
keeps_apart name size i j h off free = ap (λ b. if b then is_another name size h else is_across size i j h) (ne_eqb j i off) ∙ no_overlap i (4 + size) j (4 + h.size) free

keeps_same : (name size i j : ℕ) (h : Header) → j ≡ i → h.name ≡ name → h.size ≡ size → is_in_the_way name size i j h ≡ false
keeps_same name size i j h at named sized =
    ap (λ b. if b then is_another name size h else is_across size i j h) (eq-eqb j i at)
    ∙ ap not (and_from (h.name == name) (h.size == size) (eq-eqb h.name name named) (eq-eqb h.size size sized))

module _ (me : ℕ) (a : Places) (g : Ground) (is : IsGround me a g) (name size x : ℕ) where
  -- what word j of the segment has
  abbrev way : ℕ → Bool
  way j = option_map_or (is_in_the_way name size (index_of x) j) (a.header (address_word (home_of x) (segment_of x) j)) false

  abbrev own : Bool
  own = home_of x == me && nat_lt (a.handed (segment_of x)) (index_of x + (4 + size))

  -- ## what isn't barred can lie there

  no_way : any_below 1024 way ≡ false → (y : ℕ) (h : Header) → key_at y ≡ key_at x → index_of y < 1024 → a.header y ≡ Some h → is_in_the_way name size (index_of x) (index_of y) h ≡ false
  no_way free y h key small e =
      sym (ap (λ (o : Option Header). option_map_or (is_in_the_way name size (index_of x) (index_of y)) o false) (ap a.header (word_within x y key) ∙ e))
      ∙ each_below 1024 way free (index_of y) small

  pub lies_on : is_barred me a name size x ≡ false → LiesOn g x name size
  lies_on fails =
      let parts = or_parts (nat_lt 1024 (index_of x + (4 + size)) || own) (any_below 1024 way) fails in
      let first = or_parts (nat_lt 1024 (index_of x + (4 + size))) own parts.0 in
      let inside : index_of x + (4 + size) ≤ 1024 = not_below 1024 (index_of x + (4 + size)) first.0 in
      record {
        inside = omega (arith, inside);
        alone = λ y o key small e off.
            let f = found (a.header y) o (is.headers y ∙ ap outline_in e) in
            let base = same_base x y key in
            let size_is : f.0.size ≡ o.size = f.2.size in
            let ne : index_of y ≢ index_of x = λ same. off (omega (arith, base, same)) in
            elim (stands_apart name size (index_of x) (index_of y) f.0 ne (no_way parts.1 y f.0 key small f.1)) [
              | inl behind ↦ inl (omega (arith, base, size_is, behind))
              | inr before ↦ inr (omega (arith, base, before))
            ];
        same = λ o e.
            let f = found (a.header x) o (is.headers x ∙ ap outline_in e) in
            let s = stands_there name size (index_of x) f.0 (no_way parts.1 x f.0 refl (omega (arith, inside)) f.1) in
            (sym f.2.name ∙ s.0, sym f.2.size ∙ s.1);
        handed = λ home.
            let within = elim (and_cases (home_of x == me) (nat_lt (a.handed (segment_of x)) (index_of x + (4 + size))) first.1) as (λ _. index_of x + (4 + size) ≤ a.handed (segment_of x)) [
              | inl elsewhere ↦ absurd (false≢true (sym elsewhere ∙ eq-eqb (home_of x) me (home ∙ is.home)))
              | inr handed ↦ not_below (a.handed (segment_of x)) (index_of x + (4 + size)) handed
            ] in
            let given = is.handed (segment_of x) in
            omega (arith, within, given);
      }

  -- ## what can lie there isn't barred

  module _ (lies : LiesOn g x name size) where
    clear_at : (j : ℕ) (h : Header) → j < 1024 → a.header (address_word (home_of x) (segment_of x) j) ≡ Some h → is_in_the_way name size (index_of x) j h ≡ false
    clear_at j h small e =
        let y : ℕ = address_word (home_of x) (segment_of x) j in
        let wide : j < 2 ^ 32 = omega (arith, small) in
        let key : key_at y ≡ key_at x = key_within x j wide in
        let index : index_of y ≡ j = index_within x j wide in
        let base = same_base x y key in
        let f = found_in (g.header y) h (sym (ap outline e) ∙ is.headers y) in
        let size_is : h.size ≡ f.0.size = f.2.size in
        elim (cases_eq j (index_of x)) [
          | inl at ↦
              let there : y ≡ x = omega (arith, base, index, at) in
              let s = lies.same f.0 (sym (ap g.header there) ∙ f.1) in
              keeps_same name size (index_of x) j h at (f.2.name ∙ s.0) (f.2.size ∙ s.1)
          | inr off ↦
              let ne : y ≢ x = λ same. off (sym index ∙ ap index_of same) in
              keeps_apart name size (index_of x) j h off (elim (lies.alone y f.0 key (omega (arith, index, small)) f.1 ne) as (λ _. (j + (4 + h.size) ≤ index_of x) ⊎ (index_of x + (4 + size) ≤ j)) [
                | inl behind ↦ inl (omega (arith, base, index, size_is, behind))
                | inr before ↦ inr (omega (arith, base, index, before))
              ])
        ]

    clear : (j : ℕ) → j < 1024 → way j ≡ false
    clear j small = by (a.header (address_word (home_of x) (segment_of x) j)) refl
      where
        by : (o : Option Header) → a.header (address_word (home_of x) (segment_of x) j) ≡ o → option_map_or (is_in_the_way name size (index_of x) j) o false ≡ false
        by None e = refl
        by (Some h) e = clear_at j h small e

    handed_out : own ≡ false
    handed_out =
        elim (cases_eq (home_of x) me) [
          | inl home ↦
              let within = lies.handed (home ∙ sym is.home) in
              let given = is.handed (segment_of x) in
              and_right (home_of x == me) (nat_lt (a.handed (segment_of x)) (index_of x + (4 + size))) (le-ltb (a.handed (segment_of x)) (index_of x + (4 + size)) (omega (arith, within, given)))
          | inr elsewhere ↦ and_left (home_of x == me) (nat_lt (a.handed (segment_of x)) (index_of x + (4 + size))) (ne_eqb (home_of x) me elsewhere)
        ]

    pub not_barred : is_barred me a name size x ≡ false
    not_barred =
        let within = lies.inside in
        or_from (nat_lt 1024 (index_of x + (4 + size)) || own) (any_below 1024 way)
        (or_from (nat_lt 1024 (index_of x + (4 + size))) own (le-ltb 1024 (index_of x + (4 + size)) (omega (arith, within))) handed_out)
        (none_below 1024 way clear)
