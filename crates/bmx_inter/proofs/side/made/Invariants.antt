use Rattle.std.proofs.Common.{◌≡◌, [], length, All}
use Rattle.bmx_inter.proofs.side.made.Given as goal

abbrev pub invariant-loop : goal.invariant-loop
invariant-loop g l = (length l.bunches.items ≡ l.counter) × (All (λ s. s.list ≡ []) l.bunches.items)
