use Rattle.std.proofs.Common.{None, slice_index_or}
use Rattle.bmx_mark.specs.Inside.Targets.{IsLeast}
use Rattle.bmx_mark.proofs.fields.least_above.Given as goal

abbrev pub invariant-loop-target : goal.invariant-loop-target
invariant-loop-target l = IsLeast (λ i. slice_index_or l.targets i None) l.target-index l.floor l.least
