-- The nodes of the store, and one step of one of them.
use Rattle.std.specs.Prelude.{◌≡◌, ℕ, List, [], ◌∷◌, map, slice_get, slice_set, Some, All}
use Rattle.bmx_protocol.specs.declared.inputs.Input.{Input}
use Rattle.bmx_protocol.specs.declared.inputs.Done.{Done}
use Rattle.bmx_protocol.specs.Steps.{Node, first_node, IsStep, stamp_after}
use Rattle.bmx_node.specs.Stamped.{Stamped}
use Rattle.bmx_node.specs.Seen.{node_of, Suits}
use Rattle.bmx_embedding.specs.Settings.{the_setting}

-- they are the store's two nodes, in the order of their numbers
pub record AreNodes (nodes : List Stamped) : Type 0 where
  pub numbers : map (λ (node : Stamped). node.holdings.me) nodes ≡ 0 ∷ 1 ∷ []
  pub suits : All (λ (node : Stamped). Suits the_setting node.holdings) nodes

-- what is seen of nodes: their states by names, where objects lie, and their stamps
abbrev pub seen : List Stamped → List (Node × ℕ)
seen nodes = map (λ (node : Stamped). (node_of node.holdings, node.stamp)) nodes

-- the same as the store opens
abbrev pub first_seen : List (Node × ℕ)
first_seen = (first_node the_setting 0, 0) ∷ (first_node the_setting 1, 0) ∷ []

-- one of the nodes does a step by the rules, and the others are as they were
pub record Steps (old : List Stamped) (at : ℕ) (i : Input) (done : Done) (new : List Stamped) : Type 0 where
  pub before : Stamped
  pub behind : Stamped
  pub there : slice_get old at ≡ Some before
  pub step : IsStep the_setting at (node_of before.holdings) (stamp_after before.stamp i) i done (node_of behind.holdings)
  pub stamp : behind.stamp ≡ stamp_after before.stamp i
  pub nodes : new ≡ slice_set old at behind
