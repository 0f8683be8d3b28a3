-- What contracts see of a node.
use Rattle.std.specs.Prelude.{ℕ}
use Rattle.bmx_node.specs.declared.holdings.Holdings.{Holdings}

-- what a node has, and its stamp
pub record Stamped : Type 0 where
  pub holdings : Holdings
  pub stamp : ℕ
