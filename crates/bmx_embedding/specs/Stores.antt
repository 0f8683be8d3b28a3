-- What a step does to the nodes and the letters in flight.
use Rattle.std.specs.Prelude.{◌≡◌, ℕ, List, ◌∷◌, ◌++◌, map}
use Rattle.bmx_protocol.specs.declared.inputs.Input.{Input}
use Rattle.bmx_protocol.specs.declared.inputs.Input.TheVariants as input
use Rattle.bmx_protocol.specs.declared.inputs.NodeAnswer.{NodeAnswer}
use Rattle.bmx_protocol.specs.declared.inputs.Sending.{Sending}
use Rattle.bmx_protocol.specs.declared.inputs.Done.{Done}
use Rattle.bmx_embedding.specs.declared.store.Parcel.{Parcel}
use Rattle.bmx_embedding.specs.declared.store.Store.{Store}
use Rattle.bmx_embedding.specs.Steps.{Steps, seen}

-- letters that a node sends, in flight
abbrev pub parcels : ℕ → List Sending → List Parcel
parcels from letters = map (λ (s : Sending). record { from = from; to = s.to; letter = s.letter }) letters

-- a node does a step by the rules, and its letters come into flight behind the others
pub record Acts (old : Store) (at : ℕ) (i : Input) (answer : NodeAnswer) (new : Store) : Type 0 where
  pub done : Done
  pub step : Steps old.nodes at i done new.nodes
  pub answered : answer ≡ done.answer
  pub sent : new.in_flight.items ≡ old.in_flight.items ++ parcels at done.letters

-- the first letter in flight is taken by the node that it goes to, and what that node sends comes into flight behind
-- the others
pub record Delivers (old : Store) (answer : NodeAnswer) (new : Store) : Type 0 where
  pub first : Parcel
  pub others : List Parcel
  pub done : Done
  pub in_flight : old.in_flight.items ≡ first ∷ others
  pub step : Steps old.nodes first.to (input.Take first.from first.letter) done new.nodes
  pub answered : answer ≡ done.answer
  pub sent : new.in_flight.items ≡ others ++ parcels first.to done.letters

-- the nodes are seen as before, and the same letters are in flight
pub record IsSame (old new : Store) : Type 0 where
  pub nodes : seen new.nodes ≡ seen old.nodes
  pub in_flight : new.in_flight.items ≡ old.in_flight.items
