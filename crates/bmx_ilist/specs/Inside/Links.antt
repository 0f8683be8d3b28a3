-- How links keep the lists. For private functions and proofs.
use Rattle.std.specs.Prelude.{◌≡◌, ℕ, ◌+◌, zero, suc, Bool, true, false, ◌==◌, if◌then◌else◌, List, [], ◌∷◌, reverse, map, length, Option, Some, None}
use Rattle.slab.specs.Slab.{Slab, get, slab_len}
use Rattle.bmx_ilist.specs.declared.seats.Seat.{Seat}
use Rattle.bmx_ilist.specs.declared.seats.Ends.{Ends}
use Rattle.bmx_ilist.specs.Sequences.{keys_of, has_key, first_key, key_after, HasEachOnce}

-- as many values fit, and there are as many
pub record SameRoom (old new : Slab (Option Seat)) : Type 0 where
  pub len : slab_len new ≡ slab_len old
  pub capacity : new.capacity ≡ old.capacity

-- the seat in a slot, if there is one
abbrev pub seat_found : Option (Option Seat) → Option Seat
seat_found None = None
seat_found (Some seat) = seat

-- what a key has, with another key after it, or before it, if it is in a list
abbrev pub with_next : Option ℕ → Option (Option Seat) → Option (Option Seat)
with_next next None = None
with_next next (Some None) = Some None
with_next next (Some (Some s)) = Some (Some (record s { next = next }))

abbrev pub with_previous : Option ℕ → Option (Option Seat) → Option (Option Seat)
with_previous previous None = None
with_previous previous (Some None) = Some None
with_previous previous (Some (Some s)) = Some (Some (record s { previous = previous }))

-- it is the key
abbrev pub is_at : Option ℕ → ℕ → Bool
is_at None q = false
is_at (Some key) q = q == key

-- what q has, where the key after one key, or before it, was set
abbrev pub next_put : Option ℕ → Option ℕ → ℕ → Option (Option Seat) → Option (Option Seat)
next_put key next q seat = if is_at key q then with_next next seat else seat

abbrev pub previous_put : Option ℕ → Option ℕ → ℕ → Option (Option Seat) → Option (Option Seat)
previous_put key previous q seat = if is_at key q then with_previous previous seat else seat

-- the first that there is
abbrev pub or_else : Option ℕ → Option ℕ → Option ℕ
or_else None other = other
or_else (Some x) other = Some x

-- the ends once a key stands behind all, and once the key between these two is taken out
abbrev pub ends_pushed : ℕ → Ends → Ends
ends_pushed key e = record { first = or_else e.first (Some key); last = Some key }

abbrev pub first_unlinked : Option ℕ → Option ℕ → Option ℕ → Option ℕ
first_unlinked None next end = next
first_unlinked (Some _) next end = end

abbrev pub ends_unlinked : Option ℕ → Option ℕ → Ends → Ends
ends_unlinked previous next e = record { first = first_unlinked previous next e.first; last = first_unlinked next previous e.last }

-- the key before this one
abbrev pub key_before : ℕ → List ℕ → Option ℕ
key_before key keys = key_after key (reverse keys)

-- the last key
abbrev pub last_key : List ℕ → Option ℕ
last_key keys = first_key (reverse keys)

-- where a key of this list stands
abbrev pub seat_in : ℕ → List ℕ → ℕ → Seat
seat_in list keys key = record { list = list; previous = key_before key keys; next = key_after key keys }

abbrev pub ends_of : List ℕ → Ends
ends_of keys = record { first = first_key keys; last = last_key keys }

-- what each key has, and the ends, are those of the lists
pub record Means (found : ℕ → Option (Option Seat)) (ends : List Ends) (lists : List (List ℕ)) : Type 0 where
  pub ends_are : ends ≡ map ends_of lists
  pub seated : (list key : ℕ) → has_key key (keys_of lists list) ≡ true → found key ≡ Some (Some (seat_in list (keys_of lists list) key))
  pub listed : (key : ℕ) (s : Seat) → found key ≡ Some (Some s) → has_key key (keys_of lists s.list) ≡ true
  pub once : (list : ℕ) → HasEachOnce (keys_of lists list)

-- the key after this one, as its seat has it
abbrev pub next_of_seat : Option (Option Seat) → Option ℕ
next_of_seat None = None
next_of_seat (Some None) = None
next_of_seat (Some (Some s)) = s.next

-- at most so many keys from this one on, each the next of the one before
abbrev pub walk : (ℕ → Option (Option Seat)) → ℕ → Option ℕ → List ℕ
walk found zero start = []
walk found (suc n) None = []
walk found (suc n) (Some key) = key ∷ walk found n (next_of_seat (found key))

-- the keys of each list, by its first key and the links
abbrev pub lists_in : Slab (Option Seat) → List Ends → List (List ℕ)
lists_in seats ends = map (λ e. walk (get seats) (length seats.slots) e.first) ends

-- the numbers from this one on whose slot has a value
abbrev pub filled_from : ℕ → List (Option (Option Seat)) → List ℕ
filled_from key [] = []
filled_from key (None ∷ rest) = filled_from (key + 1) rest
filled_from key (Some _ ∷ rest) = key ∷ filled_from (key + 1) rest
