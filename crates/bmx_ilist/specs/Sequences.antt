-- Keys in at most one of some lists each: what contracts see of them.
use Rattle.std.specs.Prelude.{◌≡◌, ℕ, Bool, not, ◌==◌, if◌then◌else◌, List, [], ◌∷◌, ◌++◌, map, filter, drop, Option, Some, None, slice_index_or, slice_set, IsTrue, IsFalse, refl}
use Rattle.std.specs.List.{list_any}
use Rattle.std.specs.Ordering.{nat_cmp}
use Rattle.std.specs.FinSet as set
use Rattle.std.specs.Coded.{Coded, code_by, coded×, coded_ℕ, coded_list}

-- which keys live, the keys of each list in order, and how many more keys fit without memory
pub record Sequences : Type 0 where
  pub live : set.FinSet nat_cmp
  pub lists : List (List ℕ)
  pub spare : ℕ

abbrev pub sequences_code : Coded Sequences
sequences_code =
    code_by
    (set.FinSet nat_cmp × (List (List ℕ) × ℕ))
    (coded× (set.code coded_ℕ) (coded× (coded_list (coded_list coded_ℕ)) coded_ℕ))
    (λ s. (s.live, (s.lists, s.spare)))
    (λ p. record { live = p.0; lists = p.1.0; spare = p.1.1 })
    (λ _. refl)

-- the keys of the list of that number
abbrev pub keys_of : List (List ℕ) → ℕ → List ℕ
keys_of lists list = slice_index_or lists list []

-- the key is among these
abbrev pub has_key : ℕ → List ℕ → Bool
has_key key keys = list_any (λ x. x == key) keys

-- the key is in one of the lists
abbrev pub is_in_list : List (List ℕ) → ℕ → Bool
is_in_list lists key = list_any (has_key key) lists

-- the first key, None where there is none
abbrev pub first_key : List ℕ → Option ℕ
first_key [] = None
first_key (x ∷ _) = Some x

-- the key after this one
abbrev pub key_after : ℕ → List ℕ → Option ℕ
key_after key [] = None
key_after key (x ∷ rest) = if x == key then first_key rest else key_after key rest

-- the key after this one in the list that has it; None where it is last, or in no list
abbrev pub next_in : List (List ℕ) → ℕ → Option ℕ
next_in [] key = None
next_in (keys ∷ rest) key = if has_key key keys then key_after key keys else next_in rest key

-- the keys without this one
abbrev pub without : ℕ → List ℕ → List ℕ
without key keys = filter (λ x. not (x == key)) keys

-- the lists with the key behind all keys of one of them
abbrev pub pushed : ℕ → ℕ → List (List ℕ) → List (List ℕ)
pushed list key lists = slice_set lists list (keys_of lists list ++ key ∷ [])

-- the lists with the key in none of them
abbrev pub unlinked : ℕ → List (List ℕ) → List (List ℕ)
unlinked key lists = map (without key) lists

-- the lists with one of them lacking its first key
abbrev pub popped : ℕ → List (List ℕ) → List (List ℕ)
popped list lists = slice_set lists list (drop 1 (keys_of lists list))

-- no key is among these twice
abbrev pub HasEachOnce : List ℕ → Type 0
HasEachOnce [] = Unit {0}
HasEachOnce (x ∷ rest) = IsFalse (has_key x rest) × HasEachOnce rest

-- each key is in at most one list, once, and each key in a list lives
pub record AreApart (s : Sequences) : Type 0 where
  pub once : (list : ℕ) → HasEachOnce (keys_of s.lists list)
  pub one_list : (list other key : ℕ) → IsTrue (has_key key (keys_of s.lists list)) → IsTrue (has_key key (keys_of s.lists other)) → list ≡ other
  pub live : (list key : ℕ) → IsTrue (has_key key (keys_of s.lists list)) → IsTrue (set.contains s.live key)

-- keys 3, 5 and 7 pushed, 5 taken out: 3 and then 7, nothing after 7, 3 is popped
pushed_and_unlinked : unlinked 5 (pushed 0 7 (pushed 0 5 (pushed 0 3 ([] ∷ [])))) ≡ (3 ∷ 7 ∷ []) ∷ []
pushed_and_unlinked = refl

nothing_after_the_last : (next_in ((3 ∷ 7 ∷ []) ∷ []) 7 ≡ None) × (next_in ((3 ∷ 7 ∷ []) ∷ []) 3 ≡ Some 7)
nothing_after_the_last = (refl, refl)

first_is_popped : (first_key (3 ∷ 7 ∷ []) ≡ Some 3) × (popped 0 ((3 ∷ 7 ∷ []) ∷ []) ≡ (7 ∷ []) ∷ [])
first_is_popped = (refl, refl)
