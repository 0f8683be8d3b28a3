-- What is on its way between nodes, and how many nodes have something on its way.
use Rattle.std.specs.Prelude.{◌≡◌, ℕ, zero, suc, ◌+◌, List, [], ◌∷◌, get_or, refl}

-- what is on its way from a node, of a list for each sender: nothing from a node beyond them
abbrev pub lane_from : {A : Type 0} → List (List A) → ℕ → List A
lane_from lanes from = get_or lanes from []

-- what is on its way from a node to a node, of such a list for each receiver: nothing to a node beyond them
abbrev pub lane_of : {A : Type 0} → List (List (List A)) → ℕ → ℕ → List A
lane_of inboxes from to = lane_from (get_or inboxes to []) from

-- one where something is on its way, else none
abbrev pub one_if_any : {A : Type 0} → List A → ℕ
one_if_any [] = 0
one_if_any (x ∷ xs) = 1

-- how many of the first so many nodes have something on its way
abbrev pub senders_below : {A : Type 0} → (ℕ → List A) → ℕ → ℕ
senders_below lane zero = 0
senders_below lane (suc from) = senders_below lane from + one_if_any (lane from)

-- how many of the eight nodes have something on its way to a node
abbrev pub senders_to : {A : Type 0} → (ℕ → ℕ → List A) → ℕ → ℕ
senders_to lane to = senders_below (λ from. lane from to) 8

-- ## cases

-- node 0 has 5 and then 6 on the way to node 1, and node 2 has 7
abbrev some_lanes : List (List (List ℕ))
some_lanes = [] ∷ ((5 ∷ 6 ∷ []) ∷ [] ∷ (7 ∷ []) ∷ []) ∷ []

the_lane_from_0_to_1 : lane_of some_lanes 0 1 ≡ 5 ∷ 6 ∷ []
the_lane_from_0_to_1 = refl

nothing_from_1_to_0 : lane_of some_lanes 1 0 ≡ []
nothing_from_1_to_0 = refl

two_send_to_1 : senders_to (lane_of some_lanes) 1 ≡ 2
two_send_to_1 = refl

one_of_the_first_two_sends_to_1 : senders_below (λ from. lane_of some_lanes from 1) 2 ≡ 1
one_of_the_first_two_sends_to_1 = refl
