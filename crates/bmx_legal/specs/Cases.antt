-- A history worked by hand to which the laws apply, and what may not come next after it.
use Rattle.std.specs.Prelude.{◌≡◌, ℕ, ◌==◌, if◌then◌else◌, [], ◌∷◌, ◌++◌}
use Rattle.bmx_types.specs.Openings.{IsOpening}
use Rattle.bmx_msg.specs.declared.letters.Letter.{Letter}
use Rattle.bmx_protocol.specs.declared.inputs.Input.TheVariants as input
use Rattle.bmx_protocol.specs.declared.inputs.NodeAnswer.TheVariants as answer
use Rattle.bmx_protocol.specs.declared.events.Event.{Event}
use Rattle.bmx_protocol.specs.Steps.{Node}
use Rattle.bmx_protocol.specs.Histories.{in_flight}
use Rattle.bmx_protocol.specs.Cases.{one_bunch}
use Rattle.bmx_places.specs.Cases.{granted, the_grant}
use Rattle.bmx_legal.specs.Growing.{AreStamps, Leads, TakesFirst, MayFollow}

-- the stamps of nodes 0 and 1 when the grant of 0.1 is in flight from one to the other
abbrev pub stamps_then : ℕ → ℕ
stamps_then n = if n == 0 then 6 else if n == 1 then 1 else 0

-- node 1 takes it, and has a larger stamp than its letter
abbrev pub taking : Event
taking = record { node = 1; stamp = 7; input = input.Take 0 the_grant; done = record { answer = answer.Nil; letters = [] } }

-- a letter that isn't there
abbrev pub another : Letter
another = record the_grant { seq = 2 }

-- the laws speak of something, and not of everything: that event may come next, and takes the letter out of flight; one that takes another
-- letter may not, nor are the stamps those of all nodes
pub record LawsTell : Type 0 where
  pub opening : IsOpening (one_bunch 2).nodes (one_bunch 2).limit (one_bunch 2).births
  pub follows : (nodes : ℕ → Node) × (n : Node) × Leads (one_bunch 2) granted.past nodes stamps_then
      × MayFollow (one_bunch 2) granted.past nodes stamps_then taking n
  pub before : in_flight 0 1 granted.past ≡ the_grant ∷ []
  pub after : in_flight 0 1 (granted.past ++ taking ∷ []) ≡ []
  pub not_another : TakesFirst granted.past 1 (input.Take 0 another) → ⊥
  pub not_smaller : AreStamps granted.past (λ n. 5) → ⊥
  pub not_larger : AreStamps granted.past (λ n. 8) → ⊥
