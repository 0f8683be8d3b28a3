use Rattle.std.proofs.Common.{◌≡◌, ℕ, ◌<◌, get_or, Some}
use Rattle.bmx_segment.proofs.segments.Segments.is_open.Given as goal

abbrev pub invariant-loop-current : goal.invariant-loop-current
invariant-loop-current l = (k : ℕ) → k < l.current-index → get_or l.current-items k (Some l.number) ≡ Some l.number → ⊥
