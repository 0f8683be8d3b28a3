-- That the definitions say something: the first collection of a fresh store is a step, the worked runs are legal, and
-- three of them with one answer changed are not.
use Rattle.std.specs.Prelude.{◌≡◌, ℕ, zero, suc, List, [], ◌∷◌, Some, None}
use Rattle.bmx_types.specs.Words.{address_word}
use Rattle.bmx_clean.specs.declared.cleaner.Applied.TheVariants.{Removed}
use Rattle.bmx_protocol.specs.Cases.{one_bunch}
use Rattle.bmx_collection.specs.Steps.{LinkedNode, first_linked, Collect, Forgot, Cleaned, CollectorDone, IsCollectorStep}
use Rattle.bmx_collection.specs.Histories.{Deed, Plain, Collector, LinkedEvent, IsLegalLinked}
use Rattle.bmx_collection.specs.Cases.Stores.{two_bunches}
use Rattle.bmx_collection.specs.Cases.OldAddresses as addresses
use Rattle.bmx_collection.specs.Cases.BetweenBunches as bunches
use Rattle.bmx_collection.specs.Cases.PairsAtTwoNodes as pairs
use Rattle.bmx_collection.specs.Cases.ALateTable as late_table
use Rattle.bmx_collection.specs.Cases.AFullCollection as full_collection
use Rattle.bmx_collection.specs.Cases.OnlyARegisterElsewhere as register_elsewhere

-- what a collector does, with another outcome
abbrev pub with_outcome : CollectorDone → Deed → Deed
with_outcome d (Plain i o) = Plain i o
with_outcome d (Collector i o) = Collector i d

-- events, with another outcome of one of them, counted from 0
abbrev pub with_outcome_at : ℕ → CollectorDone → List LinkedEvent → List LinkedEvent
with_outcome_at i d [] = []
with_outcome_at zero d (e ∷ history) = record e { deed = with_outcome d e.deed } ∷ history
with_outcome_at (suc i) d (e ∷ history) = e ∷ with_outcome_at i d history

-- the first collection of a store of one bunch forgets nothing, and the anchor moves to a segment made for it
pub record FirstCollectionIsAStep : Type 0 where
  pub after : LinkedNode
  pub step : IsCollectorStep (one_bunch 2) 0 (first_linked (one_bunch 2) 0) 1 (Collect 0) (record { answer = Forgot 0; table = None }) after
  pub moved : after.places.place 1 ≡ Some (record { address = address_word 0 2 0; moves = 1 })

-- the six worked runs are legal histories
pub record WorkedRunsAreLegalLinked : Type 0 where
  pub old_addresses : IsLegalLinked (one_bunch 2) addresses.at_the_end.history
  pub only_a_register_elsewhere : IsLegalLinked (one_bunch 2) register_elsewhere.at_the_end.history
  pub a_late_table : IsLegalLinked (one_bunch 2) late_table.at_the_end.history
  pub between_bunches : IsLegalLinked (two_bunches 1) bunches.at_the_end.history
  pub pairs_at_two_nodes : IsLegalLinked (two_bunches 2) pairs.at_the_end.history
  pub a_full_collection : IsLegalLinked (record (one_bunch 1) { limit = 2 }) full_collection.at_the_end.history

-- none of these is legal: that the late table ended a record; that the second collection was done though segments were
-- lacking; that an object was forgotten that a record keeps
pub record RunsTell : Type 0 where
  pub first : FirstCollectionIsAStep
  pub late : IsLegalLinked (one_bunch 2) (with_outcome_at 46 (record { answer = Cleaned (Removed 1); table = None }) late_table.at_the_end.history) → ⊥
  pub full : IsLegalLinked (record (one_bunch 1) { limit = 2 }) (with_outcome_at 6 (record { answer = Forgot 0; table = None }) full_collection.at_the_end.history) → ⊥
  pub kept : IsLegalLinked (one_bunch 2) (with_outcome_at 23 (record { answer = Forgot 1; table = None }) register_elsewhere.at_the_end.history) → ⊥
