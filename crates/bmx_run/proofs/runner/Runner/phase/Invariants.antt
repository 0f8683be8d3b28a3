use Rattle.std.proofs.Common.{◌≡◌, ◌-◌, length}
use Rattle.bmx_run.specs.Inside.Running.{Point}
use Rattle.bmx_run.specs.Inside.Phases.{Starts, with_part}
use Rattle.bmx_run.specs.Inside.Picking.{AreTries}
use Rattle.bmx_run.proofs.Phasing.{IsOn}
use Rattle.bmx_run.proofs.runner.Runner.phase.Given as goal

abbrev pub invariant-loop-tries : goal.invariant-loop-tries
invariant-loop-tries l =
    ((p : Point) → Starts p l.fn.quiet l.fn.self → (on : IsOn p l.self) × AreTries (with_part p on.part) l.self l.tries)
    × (l.self.budget ≡ l.fn.self.budget) × (length l.tries ≡ 8)

abbrev pub decreases-loop-tries : goal.decreases-loop-tries
decreases-loop-tries l = l.self.budget - length l.self.history.items
