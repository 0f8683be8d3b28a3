use Rattle.std.proofs.Common.{◌≡◌, ◌≤◌, ℕ, length, get_or, take, All}
use Rattle.bmx_inter.specs.Inside.Sides.{Sided}
use Rattle.bmx_inter.proofs.side.reserve_each.Given as goal

abbrev pub invariant-loop-b : goal.invariant-loop-b
invariant-loop-b g l =
    ((k : ℕ) (d : Sided g.row.T.Denot) → (get_or l.bunches.items k d).list ≡ (get_or l.initial.bunches.items k d).list)
    × (All (λ s. l.n ≤ s.spare) (take l.b l.bunches.items))
    × ((room : ℕ) → All (λ s. room ≤ s.spare) l.initial.bunches.items → All (λ s. room ≤ s.spare) l.bunches.items)
    × (length l.bunches.items ≡ length l.initial.bunches.items)
