use Rattle.std.proofs.Common.{◌+◌, ◌^◌, ◌≤◌}
use Rattle.bmx_space.specs.Inside.Sweeping.{IsSwept}
use Rattle.bmx_space.proofs.space.Space.sweep.Given as goal

abbrev pub invariant-loop-i : goal.invariant-loop-i
invariant-loop-i l = record {
  swept : IsSwept l.fn.segments l.segments l.i l.swept;
  few : l.swept + l.i ≤ 2 ^ 19;
}
