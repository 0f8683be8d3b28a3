-- How keys keep the shelves.
use Rattle.std.specs.Prelude.{◌≡◌, ◌≢◌, ℕ, ◌+◌, ◌<◌, nat_eq, true, List, [], ◌∷◌, length, map, take, Option, Some, None, IsSome, ◌⊎◌}
use Rattle.std.specs.Map.{lookup}
use Rattle.bmx_ilist.specs.Sequences.{keys_of, has_key}

module _ {T : Type 0} where
  -- what a key has: nothing, no item, or an item
  abbrev pub found : List (ℕ × Option T) → ℕ → Option (Option T)
  found entries q = lookup (nat_eq q) entries

  -- a key has an item or none, or there is room for one
  abbrev pub IsPresent : (ℕ → Option (Option T)) → ℕ → ℕ → Type 0
  IsPresent has key spare = IsSome (has key) ⊎ (0 < spare)

  -- items with what a key has before them
  abbrev pub with_first : Option (Option T) → List T → List T
  with_first None xs = xs
  with_first (Some None) xs = xs
  with_first (Some (Some x)) xs = x ∷ xs

  -- the items of keys
  abbrev pub items_of : (ℕ → Option (Option T)) → List ℕ → List T
  items_of has [] = []
  items_of has (k ∷ ks) = with_first (has k) (items_of has ks)

  -- the items of each shelf
  abbrev pub shelves_in : (ℕ → Option (Option T)) → List (List ℕ) → ℕ → List (List T)
  shelves_in has lists count = take count (map (items_of has) lists)

  -- there is a list for each shelf and one more; the keys of shelves have items, and those in reserve
  -- none
  pub record Sound (has : ℕ → Option (Option T)) (lists : List (List ℕ)) (count : ℕ) : Type 0 where
    pub long : length lists ≡ count + 1
    pub filled : (m q : ℕ) → m ≢ count → has_key q (keys_of lists m) ≡ true → (x : T) × (has q ≡ Some (Some x))
    pub blank : (q : ℕ) → has_key q (keys_of lists count) ≡ true → has q ≡ Some None
