use Rattle.std.proofs.Common.{ℕ, ◌<◌}
use Rattle.bmx_replica.specs.Replicas.{Repoints, IsCurrent}
use Rattle.bmx_replica.proofs.replica.Replica.repoint_fields.Given as goal

abbrev pub invariant-loop-i : goal.invariant-loop-i
invariant-loop-i l = record {
  done : Repoints l.initial.self l.self;
  each : (j : ℕ) → j < l.i → IsCurrent l.self l.name j;
}
