use Rattle.std.proofs.Common.{◌≡◌, ℕ, ◌<◌, Some}
use Rattle.std.specs.Prelude.{slice_get}
use Rattle.bmx_memory.specs.Meaning.{MeansWhole}
use Rattle.bmx_node.specs.Stamped.{Stamped}
use Rattle.bmx_run.proofs.runner.look_at.Given as goal

abbrev pub invariant-loop-node : goal.invariant-loop-node
invariant-loop-node l = (n : ℕ) (d : Stamped) → n < l.node-index → slice_get l.nodes n ≡ Some d → MeansWhole d.holdings.memory
