use Rattle.std.proofs.Common.{◌≡◌, ◌+◌, length}
use Rattle.bmx_run.specs.Inside.Running.{Point, IsAt}
use Rattle.bmx_run.specs.Inside.Picking.{AreTries}
use Rattle.bmx_run.proofs.Choosing.{actions_below}
use Rattle.bmx_run.proofs.runner.Runner.pick.Given as goal

-- the actions of the nodes so far stand before the place
abbrev pub invariant-loop-number : goal.invariant-loop-number
invariant-loop-number l = (p : Point) → IsAt p l.self → AreTries p l.self l.tries → l.place + length (actions_below p l.self l.number) ≡ l.fn.place
