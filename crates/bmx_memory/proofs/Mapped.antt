-- Which segments are mapped, as the rules see it.
use Rattle.std.proofs.Common.{◌≡◌, ◌≢◌, ℕ, ◌+◌, ◌-◌, ◌^◌, ◌<◌, ◌&&◌, nat_lt, nat_le, eqb, Bool, true, false, cond, List, Option, Some, is_some, unwrap_or, refl, sym, ap, ◌∙◌, inl, inr, arith}
use Rattle.std.proofs.lemmas.Bool.{cases_eq, cases_lt, cases_Bool, eq-eqb, ne_eqb, false≢true, lt-ltb, le-ltb, le-leb, ltb-true, leb-true}
use Rattle.bmx_types.specs.Updates.{put_at}
use Rattle.bmx_segment.specs.Blocks.{Block, blank_block}
use Rattle.bmx_segment.specs.Stores.{segment_key, block_at, is_between, Maps}
use Rattle.bmx_graph.proofs.States.{put_at-is}

-- ---- updates at two keys

pub at_spot : {A : Type 0} (f : ℕ → ℕ → A) (n key : ℕ) (v : A) (h k : ℕ) → n ≡ h → key ≡ k → put_at f n key v h k ≡ v
at_spot f n key v h k e d =
    put_at-is f n key v h k ∙ ap (λ b. cond b (cond (eqb key k) v (f h k)) (f h k)) (eq-eqb n h e) ∙ ap (λ b. cond b v (f h k)) (eq-eqb key k d)

pub off_spot : {A : Type 0} (f : ℕ → ℕ → A) (n key : ℕ) (v : A) (h k : ℕ) → (n ≡ h → key ≡ k → ⊥) → put_at f n key v h k ≡ f h k
off_spot f n key v h k off =
    put_at-is f n key v h k
    ∙ elim (cases_eq n h) [
      | inl same ↦ ap (λ b. cond b (cond (eqb key k) v (f h k)) (f h k)) (eq-eqb n h same) ∙ ap (λ b. cond b v (f h k)) (ne_eqb key k (off same))
      | inr other ↦ ap (λ b. cond b (cond (eqb key k) v (f h k)) (f h k)) (ne_eqb n h other)
    ]

-- to put what is there changes nothing
pub put_at_same : {A : Type 0} (f : ℕ → ℕ → A) (n key : ℕ) (v : A) → v ≡ f n key → (h k : ℕ) → put_at f n key v h k ≡ f h k
put_at_same f n key v is h k =
    elim (cases_eq n h) [
      | inl e ↦
          elim (cases_eq key k) [
            | inl d ↦ at_spot f n key v h k e d ∙ is ∙ (λ i. f (e i) (d i))
            | inr other ↦ off_spot f n key v h k (λ x d. other d)
          ]
      | inr other ↦ off_spot f n key v h k (λ e d. other e)
    ]

-- ---- mapped segments

abbrev pub mapped_in : List Block → ℕ → ℕ → Bool
mapped_in blocks home number = nat_lt number (2 ^ 16) && is_some (block_at blocks (segment_key home number))

pub both_true : (a b : Bool) → (a && b) ≡ true → (a ≡ true) × (b ≡ true)
both_true true b e = (refl, e)
both_true false b e = absurd (false≢true e)

between_self : (k : ℕ) → is_between k k 1 ≡ true
between_self k = ap (λ b. b && nat_lt k (k + 1)) (le-leb k k (omega arith)) ∙ lt-ltb k (k + 1) (omega arith)

not_between : (k first : ℕ) → k ≢ first → is_between k first 1 ≡ false
not_between k first off =
    elim (cases_Bool (is_between k first 1)) [
      | inl is ↦
          let p = both_true (nat_le first k) (nat_lt k (first + 1)) is in
          let from = leb-true first k p.0 in
          let below = ltb-true k (first + 1) p.1 in
          absurd (off (omega (arith, from, below)))
      | inr isnt ↦ isnt
    ]

same_home : (home first h n : ℕ) → first < 2 ^ 16 → n < 2 ^ 16 → segment_key home first ≡ segment_key h n → home ≡ h
same_home home first h n small lt e = omega (arith, e)

same_segment : (home first h n : ℕ) → first < 2 ^ 16 → n < 2 ^ 16 → segment_key home first ≡ segment_key h n → first ≡ n
same_segment home first h n small lt e = omega (arith, e)

-- one segment is mapped from now on
pub mapped_maps : (old new : List Block) (home first : ℕ) → first < 2 ^ 16 → Maps old new home first 1 → (h n : ℕ) → mapped_in new h n ≡ put_at (mapped_in old) home first true h n
mapped_maps old new home first small maps h n =
    let key : ℕ = segment_key h n in
    let mapped : Option Block = Some (unwrap_or (block_at old key) (blank_block home (key - segment_key home 0))) in
    elim (cases_lt n (2 ^ 16)) [
      | inl lt ↦
          elim (cases_eq (segment_key home first) key) [
            | inl same ↦
                ap (λ b. b && is_some (block_at new key)) (lt-ltb n (2 ^ 16) lt)
                ∙ ap is_some (maps.blocks key ∙ ap (λ k. cond (is_between key k 1) mapped (block_at old key)) same ∙ ap (λ b. cond b mapped (block_at old key)) (between_self key))
                ∙ sym (at_spot (mapped_in old) home first true h n (same_home home first h n small lt same) (same_segment home first h n small lt same))
            | inr other ↦
                ap (λ o. nat_lt n (2 ^ 16) && is_some o) (maps.blocks key ∙ ap (λ b. cond b mapped (block_at old key)) (not_between key (segment_key home first) (λ e. other (sym e))))
                ∙ sym (off_spot (mapped_in old) home first true h n (λ a s. other (λ i. segment_key (a i) (s i))))
          ]
      | inr past ↦
          ap (λ b. b && is_some (block_at new key)) (le-ltb n (2 ^ 16) past)
          ∙ sym (off_spot (mapped_in old) home first true h n (λ a s. absurd (omega (arith, s, small, past))) ∙ ap (λ b. b && is_some (block_at old key)) (le-ltb n (2 ^ 16) past))
    ]

-- a segment that is mapped
pub mapped_there : (blocks : List Block) (home number : ℕ) → number < 2 ^ 16 → is_some (block_at blocks (segment_key home number)) ≡ true → mapped_in blocks home number ≡ true
mapped_there blocks home number small there = ap (λ b. b && is_some (block_at blocks (segment_key home number))) (lt-ltb number (2 ^ 16) small) ∙ there

pub mapped_same : (old new : List Block) → ((k : ℕ) → is_some (block_at new k) ≡ is_some (block_at old k)) → (h n : ℕ) → mapped_in new h n ≡ mapped_in old h n
mapped_same old new same h n = ap (λ b. nat_lt n (2 ^ 16) && b) (same (segment_key h n))
