use Rattle.std.proofs.Common.{◌+◌, ◌-◌, ◌≤◌}
use Rattle.bmx_segment.specs.Stores.{Maps}
use Rattle.bmx_segment.proofs.store.Store.map_range.Given as goal

abbrev pub invariant-loop-number : goal.invariant-loop-number
invariant-loop-number l =
    Maps l.initial.self.blocks l.self.blocks l.home l.first (l.number - l.first)
    × (l.spare + l.more ≤ l.self.spare + (l.number - l.first))
    × (l.number ≤ l.first + l.more)
