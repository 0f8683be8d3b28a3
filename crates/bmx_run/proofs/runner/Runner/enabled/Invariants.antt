use Rattle.std.proofs.Common.{◌≡◌, ℕ, ◌*◌, ◌^◌, ◌<◌, ◌≤◌, length}
use Rattle.bmx_run.specs.Inside.Running.{Point, IsAt}
use Rattle.bmx_run.specs.Inside.Picking.{AreTries, ServesAll}
use Rattle.bmx_run.proofs.Choosing.{actions_below}
use Rattle.bmx_run.proofs.runner.Runner.enabled.Given as goal

-- the nodes so far are counted
abbrev pub invariant-loop-number : goal.invariant-loop-number
invariant-loop-number l =
    (l.total ≤ l.number * 2 ^ 66)
    × ((p : Point) → IsAt p l.self → AreTries p l.self l.fn.tries → l.total ≡ length (actions_below p l.self l.number))
    × ((p : Point) → IsAt p l.self → (n : ℕ) → n < l.number → ServesAll p l.self n)
