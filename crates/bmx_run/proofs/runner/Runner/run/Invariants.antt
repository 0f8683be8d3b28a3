use Rattle.std.proofs.Common.{◌≡◌, ℕ, []}
use Rattle.bmx_protocol.specs.Runs.Programs.{stages}
use Rattle.bmx_world.specs.Scripts.{body_of}
use Rattle.bmx_run.specs.Inside.Running.{IsBetween}
use Rattle.bmx_run.proofs.Walking.{HasCome}
use Rattle.bmx_run.proofs.runner.Runner.run.Given as goal

abbrev pub invariant-loop-line : goal.invariant-loop-line
invariant-loop-line l =
    ((seed : ℕ) → IsBetween l.lines seed [] [] (stages (body_of l.lines)) l.fn.self → HasCome l.lines seed l.line-index l.self) × (l.self.budget ≡ l.fn.self.budget)
