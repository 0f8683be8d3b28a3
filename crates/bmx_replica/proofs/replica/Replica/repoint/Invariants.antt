use Rattle.std.proofs.Common.{◌≡◌, ℕ, ◌<◌, Some, slice_get}
use Rattle.bmx_replica.specs.declared.directory.Slot.{Slot}
use Rattle.bmx_replica.specs.Replicas.{Repoints, IsCurrent}
use Rattle.bmx_replica.proofs.replica.Replica.repoint.Given as goal

abbrev pub invariant-loop-place : goal.invariant-loop-place
invariant-loop-place l = record {
  done : Repoints l.initial.self l.self;
  each : (k name i : ℕ) (s : Slot) → k < l.place → slice_get l.initial.self.slots k ≡ Some (name, s) → IsCurrent l.self name i;
}
