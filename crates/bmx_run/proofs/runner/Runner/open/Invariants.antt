use Rattle.bmx_node.specs.Openings.{setting_of}
use Rattle.bmx_run.proofs.Opening.{AreFresh}
use Rattle.bmx_run.proofs.runner.Runner.open.Given as goal

abbrev pub invariant-loop-number : goal.invariant-loop-number
invariant-loop-number l = AreFresh (setting_of l.opening) l.number l.nodes.items l.seats.items
