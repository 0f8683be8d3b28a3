-- Four words written one after another.
use Rattle.std.proofs.Common.{◌≡◌, ◌⊎◌, ℕ, ◌+◌, ◌<◌, ◌≤◌, List, length, get_or, set, arith}
use Rattle.std.proofs.lemmas.List.{get_or-set_same, get_or-set_other, length-set}

abbrev pub four : List ℕ → ℕ → ℕ → ℕ → ℕ → ℕ → List ℕ
four ws i a b c d = set (set (set (set ws i a) (i + 1) b) (i + 2) c) (i + 3) d

pub length-four : (ws : List ℕ) (i a b c d : ℕ) → length (four ws i a b c d) ≡ length ws
length-four ws i a b c d = simp length-set

module _ (ws : List ℕ) (i a b c d : ℕ) (fits : i + 4 ≤ length ws) where
  pub four_first : get_or (four ws i a b c d) i 0 ≡ a
  four_first = grind (arith, get_or-set_same, get_or-set_other, length-set)

  pub four_second : get_or (four ws i a b c d) (i + 1) 0 ≡ b
  four_second = grind (arith, get_or-set_same, get_or-set_other, length-set)

  pub four_third : get_or (four ws i a b c d) (i + 2) 0 ≡ c
  four_third = grind (arith, get_or-set_same, get_or-set_other, length-set)

  pub four_fourth : get_or (four ws i a b c d) (i + 3) 0 ≡ d
  four_fourth = grind (arith, get_or-set_same, get_or-set_other, length-set)

  pub four_others : (k : ℕ) → (k < i) ⊎ (i + 4 ≤ k) → get_or (four ws i a b c d) k 0 ≡ get_or ws k 0
  four_others k apart = grind (arith, get_or-set_other)
