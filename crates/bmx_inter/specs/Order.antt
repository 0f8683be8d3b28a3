-- Pairs, a source and a target, in order, and lists with at most one element for each pair.
use Rattle.std.specs.Prelude.{ℕ, Bool, ◌&&◌, ◌||◌, nat_lt, ◌==◌, List, ◌∷◌, ◌++◌, Option, filter, find, AllPairs, IsTrue}
use Rattle.std.specs.List.{list_any}
use Rattle.bmx_types.specs.declared.names.Pair.{Pair}

-- one stands before the other: by source, then by target
abbrev pub is_ahead : Pair → Pair → Bool
is_ahead p q = nat_lt p.source q.source || (p.source == q.source && nat_lt p.target q.target)

-- both are one
abbrev pub is_same : Pair → Pair → Bool
is_same p q = p.source == q.source && p.target == q.target

-- the pairs list it
abbrev pub is_listed : List Pair → Pair → Bool
is_listed pairs p = list_any (λ q. is_same q p) pairs

-- each element stands before all later ones by its pair, so there is at most one for each pair
abbrev pub IsInOrder : {X : Type 0} → (X → Pair) → List X → Type 0
IsInOrder pair_of xs = AllPairs (λ x y. IsTrue (is_ahead (pair_of x) (pair_of y))) xs

-- the element for a source and a target, None where there is none
abbrev pub find_one : {X : Type 0} → (X → Pair) → List X → ℕ → ℕ → Option X
find_one pair_of xs source target = find (λ x. is_same (pair_of x) (record { source = source; target = target })) xs

-- the list with this element in its place, instead of the one for the same pair
abbrev pub with_one : {X : Type 0} → (X → Pair) → X → List X → List X
with_one pair_of x xs = filter (λ y. is_ahead (pair_of y) (pair_of x)) xs ++ x ∷ filter (λ y. is_ahead (pair_of x) (pair_of y)) xs

-- the list without the one of the pair
abbrev pub without_one : {X : Type 0} → (X → Pair) → Pair → List X → List X
without_one pair_of p xs = filter (λ y. is_ahead (pair_of y) p) xs ++ filter (λ y. is_ahead p (pair_of y)) xs
