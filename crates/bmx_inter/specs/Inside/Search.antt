-- Where a search for a pair ends.
use Rattle.std.specs.Prelude.{◌≡◌, ℕ, suc, ◌<◌, ◌≤◌, List, Some, None, length, take, drop, filter, slice_index_or}
use Rattle.bmx_types.specs.declared.names.Pair.{Pair}
use Rattle.bmx_inter.specs.Order.{is_ahead, find_one}

-- the element for the pair stands at place i, after all that stand before the pair
pub record StandsAt {X : Type 0} (pair_of : X → Pair) (xs : List X) (p : Pair) (i : ℕ) : Type 0 where
  pub within : i < length xs
  pub found : (d : X) → find_one pair_of xs p.source p.target ≡ Some (slice_index_or xs i d)
  pub ahead : take i xs ≡ filter (λ x. is_ahead (pair_of x) p) xs
  pub behind : drop (suc i) xs ≡ filter (λ x. is_ahead p (pair_of x)) xs

-- there is none, and it would stand at place i
pub record FitsAt {X : Type 0} (pair_of : X → Pair) (xs : List X) (p : Pair) (i : ℕ) : Type 0 where
  pub within : i ≤ length xs
  pub none : find_one pair_of xs p.source p.target ≡ None
  pub ahead : take i xs ≡ filter (λ x. is_ahead (pair_of x) p) xs
  pub behind : drop i xs ≡ filter (λ x. is_ahead p (pair_of x)) xs
