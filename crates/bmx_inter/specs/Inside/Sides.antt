-- How stubs or scions of a node stand in a list for each bunch.
use Rattle.std.specs.Prelude.{◌≡◌, ℕ, ◌-◌, ◌<◌, ◌≤◌, Bool, ◌&&◌, ◌==◌, nat_lt, if◌then◌else◌, List, [], ◌∷◌, length, slice_index_or, filter, count_by, sum_by, Option, Some, None, All, ◌⊎◌}
use Rattle.bmx_types.specs.declared.names.Pair.{Pair}
use Rattle.bmx_inter.specs.Order.{is_ahead, with_one}

-- what contracts see: stubs or scions in order, and how many more can be kept without memory
pub record Sided (X : Type 0) : Type 0 where
  pub list : List X
  pub spare : ℕ

-- it is of the bunch and goes
abbrev pub is_ended_in : {X : Type 0} → (X → ℕ) → ℕ → (X → Bool) → X → Bool
is_ended_in bunch_of bunch ends x = bunch_of x == bunch && ends x

-- how many of a list stand before the pair
abbrev pub count_ahead : {X : Type 0} → (X → Pair) → Pair → List X → ℕ
count_ahead pair_of p xs = count_by (λ x. is_ahead (pair_of x) p) xs

-- how many of all lists do
abbrev pub rank_of : {X : Type 0} → (X → Pair) → Pair → List (Sided X) → ℕ
rank_of pair_of p all = sum_by (λ s. count_ahead pair_of p s.list) all

-- what is left of a number without another one, None where that is larger
abbrev pub less : ℕ → ℕ → Option ℕ
less n i = if nat_lt i n then None else Some (i - n)

-- one list over another: each takes its place
abbrev pub overlay : {X : Type 0} → (X → Pair) → List X → List X → List X
overlay pair_of [] ys = ys
overlay pair_of (x ∷ xs) ys = with_one pair_of x (overlay pair_of xs ys)

-- all lists in one, in order
abbrev pub merged : {X : Type 0} → (X → Pair) → List (Sided X) → List X
merged pair_of [] = []
merged pair_of (s ∷ all) = overlay pair_of s.list (merged pair_of all)

-- the lists of the bunches are as they were, or there was none and now each is empty
abbrev pub IsBegun : {X : Type 0} → List (Sided X) → List (Sided X) → Type 0
IsBegun old new = ((new ≡ old) × (0 < length old)) ⊎ ((length old ≡ 0) × (length new ≡ 16) × All (λ s. s.list ≡ []) new)

module _ {X : Type 0} (pair_of : X → Pair) (bunch_of : X → ℕ) where
  -- each bunch's list is what is of that bunch in the one list
  abbrev pub AreParts : List (Sided X) → List X → Type 0
  AreParts all list = (b : ℕ) (d : Sided X) → b < length all → (slice_index_or all b d).list ≡ filter (λ x. bunch_of x == b) list

  -- what the lists of a side keep; there is none before room was made
  pub record Kept (all : List (Sided X)) (room : ℕ) : Type 0 where
    pub count : (length all ≡ 16) ⊎ ((length all ≡ 0) × (room ≡ 0))
    pub parts : AreParts all (merged pair_of all)
    pub bounded : All (λ x. bunch_of x < length all) (merged pair_of all)
    pub roomy : All (λ s. room ≤ s.spare) all
