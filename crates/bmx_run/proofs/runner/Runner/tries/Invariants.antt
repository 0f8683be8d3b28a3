use Rattle.std.proofs.Common.{◌≡◌, ℕ, ◌<◌, Bool, length, Some}
use Rattle.std.specs.Prelude.{slice_get}
use Rattle.bmx_run.specs.Inside.Running.{Point, IsAt}
use Rattle.bmx_run.specs.Inside.Picking.{MayTry}
use Rattle.bmx_run.proofs.runner.Runner.tries.Given as goal

-- the nodes so far were looked at
abbrev pub invariant-loop-number : goal.invariant-loop-number
invariant-loop-number l =
    (length l.tries ≡ 8)
    × ((p : Point) → IsAt p l.self → (n : ℕ) → n < l.number → (b : Bool) × (slice_get l.tries n ≡ Some b) × MayTry p l.self n b)
