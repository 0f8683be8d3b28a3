-- An owner and a reader: what the owner knows of the reader, what is on the channels between them, and what
-- the reader has, all as numbers. Each act of either keeps what holds of them.
use Rattle.std.proofs.Common.{◌≡◌, ◌⊎◌, inl, inr, ℕ, ◌+◌, ◌≤◌, arith}

-- r, w: whether the reader is among the owner's readers, and among those it waits for; g, c: grants to
-- read and recalls in the channel to the reader, and b: grants that stand behind recalls; t: returns on
-- the channel back; p: whether the reader has a copy and calls the owner its parent; d: whether it is to
-- return its copy to the owner
pub record IsFine (r w g c b t p d : ℕ) : Type 0 where
  pub granted : 1 ≤ g → 1 ≤ r
  pub copied : p ≤ r
  pub waited : c + d + t ≡ w
  pub ordered : b ≡ 0
  pub due : 1 ≤ d → g ≡ 0
  pub returned : 1 ≤ t → p ≡ 0
  pub silent : 1 ≤ t → g ≡ 0

-- what an act takes of the channels and sends: the owner sends sg grants and sc recalls and takes tt
-- returns, the reader takes tg grants and tc recalls and sends st returns
pub record IsChange (g c b t g' c' b' t' sg sc tt tg tc st : ℕ) : Type 0 where
  pub gm : ℕ
  pub cm : ℕ
  pub bm : ℕ
  pub tm : ℕ
  pub bt : ℕ
  pub bs : ℕ
  pub g_before : g ≡ tg + gm
  pub g_after : g' ≡ gm + sg
  pub c_before : c ≡ tc + cm
  pub c_after : c' ≡ cm + sc
  pub t_before : t ≡ tt + tm
  pub t_after : t' ≡ tm + st
  pub b_kept : tc ≡ 0 → b ≡ bt + bm
  pub b_called : tc ≡ 1 → b ≡ bt + gm + bm
  pub b_none : sg ≡ 0 → b' ≡ bm + bs
  pub b_free : cm ≡ 0 → b' ≡ bm + bs
  pub bs_none : sg ≡ 0 → bs ≡ 0
  pub bs_free : sc ≡ 0 → bs ≡ 0

-- an owner does nothing about the reader, or may add it
pub record OwnerRests (r w r' w' sg sc tt : ℕ) : Type 0 where
  pub more : r ≤ r'
  pub same : w' ≡ w
  pub no_grant : sg ≡ 0
  pub no_recall : sc ≡ 0
  pub no_return : tt ≡ 0

pub data OwnerActs (r w r' w' sg sc tt : ℕ) : Type 0 where
  Nothing : OwnerRests r w r' w' sg sc tt → OwnerActs r w r' w' sg sc tt
  Grants : w ≡ 0 → w' ≡ 0 → r ≤ r' → 1 ≤ r' → sg ≡ 1 → sc ≡ 0 → tt ≡ 0 → OwnerActs r w r' w' sg sc tt
  Recalls : w ≡ 0 → r' ≡ r → w' ≡ r → sg ≡ 0 → sc ≡ r → tt ≡ 0 → OwnerActs r w r' w' sg sc tt
  GetsBack : w ≤ 1 → r' ≡ 0 → w' ≡ 0 → sg ≡ 0 → sc ≡ 0 → tt ≡ 1 → OwnerActs r w r' w' sg sc tt

-- a reader does nothing about the owner, or loses its copy
pub record ReaderRests (p d p' d' tg tc st : ℕ) : Type 0 where
  pub less : p' ≤ p
  pub same : d' ≡ d
  pub no_grant : tg ≡ 0
  pub no_recall : tc ≡ 0
  pub no_return : st ≡ 0

pub data ReaderActs (p d p' d' tg tc st : ℕ) : Type 0 where
  Nothing : ReaderRests p d p' d' tg tc st → ReaderActs p d p' d' tg tc st
  Copies : p' ≤ 1 → d' ≡ d → tg ≡ 1 → tc ≡ 0 → st ≡ 0 → ReaderActs p d p' d' tg tc st
  Delays : p' ≤ p → d' ≡ d + 1 → tg ≡ 0 → tc ≡ 1 → st ≡ 0 → ReaderActs p d p' d' tg tc st
  Answers : p' ≡ 0 → d' ≡ d → tg ≡ 0 → tc ≡ 1 → st ≡ 1 → ReaderActs p d p' d' tg tc st
  Releases : p' ≡ 0 → d ≡ d' + 1 → tg ≡ 0 → tc ≡ 0 → st ≡ 1 → ReaderActs p d p' d' tg tc st

pub owner_keeps : (r w g c b t p d r' w' g' c' b' t' p' d' sg sc tt tg tc st : ℕ) →
    IsFine r w g c b t p d → IsChange g c b t g' c' b' t' sg sc tt tg tc st →
    OwnerActs r w r' w' sg sc tt → ReaderRests p d p' d' tg tc st → IsFine r' w' g' c' b' t' p' d'
owner_keeps r w g c b t p d r' w' g' c' b' t' p' d' sg sc tt tg tc st f h (Nothing o) i = omega arith
owner_keeps r w g c b t p d r' w' g' c' b' t' p' d' sg sc tt tg tc st f h (Grants w0 w1 more some sg1 sc0 tt0) i = omega arith
owner_keeps r w g c b t p d r' w' g' c' b' t' p' d' sg sc tt tg tc st f h (Recalls w0 same w1 sg0 scr tt0) i = omega arith
owner_keeps r w g c b t p d r' w' g' c' b' t' p' d' sg sc tt tg tc st f h (GetsBack w1 r0 w0 sg0 sc0 tt1) i = omega arith

pub reader_keeps : (r w g c b t p d r' w' g' c' b' t' p' d' sg sc tt tg tc st : ℕ) →
    IsFine r w g c b t p d → IsChange g c b t g' c' b' t' sg sc tt tg tc st →
    OwnerRests r w r' w' sg sc tt → ReaderActs p d p' d' tg tc st → IsFine r' w' g' c' b' t' p' d'
reader_keeps r w g c b t p d r' w' g' c' b' t' p' d' sg sc tt tg tc st f h o (Nothing i) = omega arith
reader_keeps r w g c b t p d r' w' g' c' b' t' p' d' sg sc tt tg tc st f h o (Copies p1 same tg1 tc0 st0) = omega arith
reader_keeps r w g c b t p d r' w' g' c' b' t' p' d' sg sc tt tg tc st f h o (Delays less more tg0 tc1 st0) = omega arith
reader_keeps r w g c b t p d r' w' g' c' b' t' p' d' sg sc tt tg tc st f h o (Answers p0 same tg0 tc1 st1) = omega arith
reader_keeps r w g c b t p d r' w' g' c' b' t' p' d' sg sc tt tg tc st f h o (Releases p0 less tg0 tc0 st1) = omega arith

-- a node of which nothing is in flight forgets
pub forgets_keeps : (r w g c b t p d r' w' p' d' : ℕ) → IsFine r w g c b t p d → w' ≡ w → p' ≤ p → d' ≡ d → (r ≤ r') ⊎ ((g ≡ 0) × (p ≡ 0)) →
    IsFine r' w' g c b t p' d'
forgets_keeps r w g c b t p d r' w' p' d' f w0 p0 d0 (inl more) = omega arith
forgets_keeps r w g c b t p d r' w' p' d' f w0 p0 d0 (inr none) = omega (arith, none.0, none.1)
