-- Where the block of a segment is found in a list, and look-ups after one is replaced, added or taken out.
use Rattle.std.proofs.Common.{◌≡◌, ◌≢◌, ◌⊎◌, ℕ, ◌+◌, ◌-◌, ◌<◌, zero, suc, List, [], ◌∷◌, ◌++◌, length, get_or, set, Option, Some, None, arith, refl, sym, ap, ◌∙◌, inl, inr, eq-eqb}
use Rattle.std.specs.Prelude.{◌==◌, if◌then◌else◌}
use Rattle.std.proofs.lemmas.Bool.{cases_eq, ne_eqb}
use Rattle.std.proofs.lemmas.List.{length-set, get_or-set_same, get_or-set_other}
use Rattle.bmx_types.specs.Updates.{Puts}
use Rattle.bmx_segment.specs.Blocks.{Block}
use Rattle.bmx_segment.specs.Stores.{key_of, block_at}
use Rattle.bmx_segment.specs.Inside.Blocks.{IsBlock}
use Rattle.bmx_segment.specs.Inside.Stores.{AreBlocks, AreDistinct}

pub chosen : {X : Type 0} (k key : ℕ) (x y : X) → k ≡ key → (if key == k then x else y) ≡ x
chosen k key x y same = rw (eq-eqb key k (sym same))

pub passed : {X : Type 0} (k key : ℕ) (x y : X) → (k ≡ key → ⊥) → (if key == k then x else y) ≡ y
passed k key x y other = rw (ne_eqb key k (λ e. other (sym e)))

distinct-tail : (b : Block) (bs : List Block) → AreDistinct (b ∷ bs) → AreDistinct bs
distinct-tail b bs apart = λ i j d wi wj same. let e = apart (suc i) (suc j) d (omega arith) (omega arith) same in omega arith

-- the first of them has a key of its own
distinct-head : (b : Block) (bs : List Block) → AreDistinct (b ∷ bs) → (i : ℕ) (d : Block) → i < length bs → key_of b ≢ key_of (get_or bs i d)
distinct-head b bs apart i d within = λ same. let e = apart 0 (suc i) d (omega arith) (omega arith) same in absurd (omega arith)

-- the head of a list is found first
found_first : (b : Block) (bs : List Block) (k : ℕ) → k ≡ key_of b → block_at (b ∷ bs) k ≡ Some b
found_first b bs k same = rw (eq-eqb (key_of b) k (sym same))

found_later : (b : Block) (bs : List Block) (k : ℕ) → (k ≡ key_of b → ⊥) → block_at (b ∷ bs) k ≡ block_at bs k
found_later b bs k other = rw (ne_eqb (key_of b) k (λ same. other (sym same)))

-- a block is found under its key
pub block_at-found : (bs : List Block) (i : ℕ) (d : Block) → AreDistinct bs → i < length bs → block_at bs (key_of (get_or bs i d)) ≡ Some (get_or bs i d)
block_at-found [] i d apart within = absurd (omega arith)
block_at-found (b ∷ bs) zero d apart within = found_first b bs (key_of b) refl
block_at-found (b ∷ bs) (suc i) d apart within =
    let ne = distinct-head b bs apart i d (omega arith) in
    found_later b bs (key_of (get_or bs i d)) (λ e. ne (sym e)) ∙ block_at-found bs i d (distinct-tail b bs apart) (omega arith)

-- nothing is found under a key that none has
pub block_at-absent : (bs : List Block) (key : ℕ) → ((j : ℕ) (d : Block) → j < length bs → key_of (get_or bs j d) ≢ key) → block_at bs key ≡ None
block_at-absent [] key none = refl
block_at-absent (b ∷ bs) key none =
    found_later b bs key (λ e. none 0 b (omega arith) (sym e)) ∙ block_at-absent bs key (λ j d within. none (suc j) d (omega arith))

-- a key is that of a block, or of none
pub key_cases : (bs : List Block) (key : ℕ) (d : Block) → ((i : ℕ) × (i < length bs) × (key_of (get_or bs i d) ≡ key)) ⊎ ((j : ℕ) → j < length bs → key_of (get_or bs j d) ≢ key)
key_cases [] key d = inr (λ j within. absurd (omega arith))
key_cases (b ∷ bs) key d =
    elim (cases_eq (key_of b) key) [
      | inl same ↦ inl (0, omega arith, same)
      | inr other ↦ elim (key_cases bs key d) [
        | inl there ↦ let within = there.1 in inl (suc there.0, omega arith, there.2)
        | inr none ↦ inr (λ j within. elim (cases_eq j 0) [
          | inl first ↦ λ e. other (sym (ap (λ (n : ℕ). key_of (get_or (b ∷ bs) n d)) first) ∙ e)
          | inr later ↦ λ e. let back : suc (j - 1) ≡ j = omega arith in none (j - 1) (omega arith) (ap (λ (n : ℕ). key_of (get_or (b ∷ bs) n d)) back ∙ e)
        ])
      ]
    ]

-- nothing is found where the default's key stands for none
pub block_at-none : (bs : List Block) (key : ℕ) (d : Block) → ((j : ℕ) → j < length bs → key_of (get_or bs j d) ≢ key) → block_at bs key ≡ None
block_at-none [] key d none = refl
block_at-none (b ∷ bs) key d none =
    found_later b bs key (λ e. none 0 (omega arith) (sym e)) ∙ block_at-none bs key d (λ j within. none (suc j) (omega arith))

pub block_at-at : (bs : List Block) (i key : ℕ) (d : Block) → AreDistinct bs → i < length bs → key_of (get_or bs i d) ≡ key → block_at bs key ≡ Some (get_or bs i d)
block_at-at bs i key d apart within same = ap (block_at bs) (sym same) ∙ block_at-found bs i d apart within

-- a block is replaced by one of its key
pub Puts-set : (bs : List Block) (i : ℕ) (b d : Block) → AreDistinct bs → i < length bs → key_of b ≡ key_of (get_or bs i d) → Puts (block_at bs) (block_at (set bs i b)) (key_of b) (Some b)
Puts-set [] i b d apart within same = absurd (omega arith)
Puts-set (c ∷ cs) zero b d apart within same = λ k.
    elim (cases_eq k (key_of b)) [
      | inl at ↦ found_first b cs k at ∙ sym (chosen k (key_of b) (Some b) (block_at (c ∷ cs) k) at)
      | inr off ↦
          found_later b cs k off
          ∙ (sym (found_later c cs k (λ e. off (e ∙ sym same))) ∙ sym (passed k (key_of b) (Some b) (block_at (c ∷ cs) k) off))
    ]
Puts-set (c ∷ cs) (suc i) b d apart within same = λ k.
    let ne = distinct-head c cs apart i d (omega arith) in
    elim (cases_eq k (key_of c)) [
      | inl at ↦
          let off : k ≡ key_of b → ⊥ = λ e. ne (sym at ∙ (e ∙ same)) in
          found_first c (set cs i b) k at
          ∙ (sym (found_first c cs k at) ∙ sym (passed k (key_of b) (Some b) (block_at (c ∷ cs) k) off))
      | inr past ↦
          found_later c (set cs i b) k past
          ∙ (Puts-set cs i b d (distinct-tail c cs apart) (omega arith) same k
          ∙ ap (λ (o : Option Block). if key_of b == k then Some b else o) (sym (found_later c cs k past)))
    ]

-- a block is added under a new key
pub Puts-push : (bs : List Block) (b : Block) → block_at bs (key_of b) ≡ None → Puts (block_at bs) (block_at (bs ++ b ∷ [])) (key_of b) (Some b)
Puts-push [] b none = λ k.
    elim (cases_eq k (key_of b)) [
      | inl at ↦ found_first b [] k at ∙ sym (chosen k (key_of b) (Some b) None at)
      | inr off ↦ found_later b [] k off ∙ sym (passed k (key_of b) (Some b) None off)
    ]
Puts-push (c ∷ cs) b none = λ k.
    let new_key : key_of b ≡ key_of c → ⊥ = λ e. let wrong : Some c ≡ None = sym (found_first c cs (key_of b) e) ∙ none in cc in
    let later : block_at cs (key_of b) ≡ None = sym (found_later c cs (key_of b) new_key) ∙ none in
    elim (cases_eq k (key_of c)) [
      | inl at ↦
          let off : k ≡ key_of b → ⊥ = λ e. new_key (sym e ∙ at) in
          found_first c (cs ++ b ∷ []) k at
          ∙ (sym (found_first c cs k at) ∙ sym (passed k (key_of b) (Some b) (block_at (c ∷ cs) k) off))
      | inr past ↦
          found_later c (cs ++ b ∷ []) k past
          ∙ (Puts-push cs b later k
          ∙ ap (λ (o : Option Block). if key_of b == k then Some b else o) (sym (found_later c cs k past)))
    ]

-- a block is taken out, and another may take its place
module _ (xs ys : List Block) (i : ℕ) (d : Block) (apart : AreDistinct xs) (also : AreDistinct ys) (within : i < length xs) (fewer : length ys + 1 ≡ length xs)
    (there : (j : ℕ) → j < length ys → (k : ℕ) × (k < length xs) × (k ≢ i) × (get_or ys j d ≡ get_or xs k d))
    (back : (k : ℕ) → k < length xs → k ≢ i → (j : ℕ) × (j < length ys) × (get_or ys j d ≡ get_or xs k d)) where
  key : ℕ
  key = key_of (get_or xs i d)

  pub Puts-removed : Puts (block_at xs) (block_at ys) (key_of (get_or xs i d)) None
  Puts-removed k =
      elim (key_cases ys k d) [
        | inl found ↦
            let was = there found.0 found.1 in
            let same : key_of (get_or xs was.0 d) ≡ k = ap key_of (sym was.3) ∙ found.2 in
            let off : k ≡ key_of (get_or xs i d) → ⊥ = λ e. was.2 (apart was.0 i d was.1 within (same ∙ e)) in
            block_at-at ys found.0 k d also found.1 found.2
            ∙ (ap Some was.3 ∙ (sym (block_at-at xs was.0 k d apart was.1 same) ∙ sym (passed k (key_of (get_or xs i d)) None (block_at xs k) off)))
        | inr none ↦
            block_at-none ys k d none
            ∙ sym (elim (cases_eq k (key_of (get_or xs i d))) [
              | inl at ↦ chosen k (key_of (get_or xs i d)) None (block_at xs k) at
              | inr off ↦
                  passed k (key_of (get_or xs i d)) None (block_at xs k) off
                  ∙ block_at-none xs k d (λ j inside e.
                  let ne : j ≢ i = λ same. off (sym e ∙ ap (λ (n : ℕ). key_of (get_or xs n d)) same) in
                  let now = back j inside ne in
                  none now.0 now.1 (ap key_of now.2 ∙ e))
            ])
      ]

-- ---- the blocks stay blocks

-- what stands at a place after a block was replaced
pub at-set : (bs : List Block) (i j : ℕ) (b d : Block) → i < length bs → ((j ≡ i) × (get_or (set bs i b) j d ≡ b)) ⊎ (get_or (set bs i b) j d ≡ get_or bs j d)
at-set bs i j b d within =
    elim (cases_eq j i) [
      | inl same ↦ inl (same, rw (same, get_or-set_same))
      | inr other ↦ inr (get_or-set_other bs i j b d other)
    ]

pub AreBlocks-set : (bs : List Block) (i : ℕ) (b : Block) → AreBlocks bs → i < length bs → IsBlock b → AreBlocks (set bs i b)
AreBlocks-set bs i b blocks within block = λ p d inside.
    let l = length-set bs i b in
    elim (at-set bs i p b d within) [
      | inl here ↦ rw here.1 block
      | inr there ↦ rw there (blocks p d (omega arith))
    ]
