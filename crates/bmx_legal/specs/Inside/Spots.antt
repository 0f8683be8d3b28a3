-- Where letters stand in a history: the number of an event, and the letter's own among those of its outcome.
use Rattle.std.specs.Prelude.{◌≡◌, ℕ, ◌+◌, ◌==◌, if◌then◌else◌, List, [], ◌∷◌, Some, slice_get, refl}
use Rattle.bmx_msg.specs.declared.letters.Letter.{Letter}
use Rattle.bmx_protocol.specs.declared.inputs.Sending.{Sending}
use Rattle.bmx_protocol.specs.declared.events.Event.{Event}

-- a letter stands at a spot of a history
pub record StandsAt (history : List Event) (spot : ℕ × ℕ) (letter : Letter) : Type 0 where
  pub event : Event
  pub sending : Sending
  pub there : slice_get history spot.0 ≡ Some event
  pub among : slice_get event.done.letters spot.1 ≡ Some sending
  pub is : sending.letter ≡ letter

-- spots are those of letters, one by one
abbrev pub Finds : List Event → List (ℕ × ℕ) → List Letter → Type 0
Finds history [] [] = Unit {0}
Finds history [] (l ∷ letters) = ⊥
Finds history (p ∷ spots) [] = ⊥
Finds history (p ∷ spots) (l ∷ letters) = StandsAt history p l × Finds history spots letters

-- the spots of letters to a node in an event's outcome, where the first letter has number k
abbrev pub spots_to : ℕ → ℕ → ℕ → List Sending → List (ℕ × ℕ)
spots_to m event k [] = []
spots_to m event k (l ∷ letters) = if l.to == m then (event, k) ∷ spots_to m event (k + 1) letters else spots_to m event (k + 1) letters

-- of three letters of event 7, the first and the last go to node 1
spots_of_two : (l : Letter) → spots_to 1 7 0 (record { to = 1; letter = l } ∷ record { to = 2; letter = l } ∷ record { to = 1; letter = l } ∷ []) ≡ (7, 0) ∷ (7, 2) ∷ []
spots_of_two l = refl
