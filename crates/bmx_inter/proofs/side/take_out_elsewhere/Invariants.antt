use Rattle.std.proofs.Common.{◌≡◌, ◌≢◌, ◌<◌, ◌≤◌, ℕ, length, get_or, All}
use Rattle.bmx_inter.specs.Inside.Sides.{Sided}
use Rattle.bmx_inter.specs.Order.{without_one}
use Rattle.bmx_inter.proofs.side.take_out_elsewhere.Given as goal

abbrev pub invariant-loop-b : goal.invariant-loop-b
invariant-loop-b g l =
    ((d : Sided g.row.T.Denot) → get_or l.bunches.items l.bunch d ≡ get_or l.initial.bunches.items l.bunch d)
    × ((k : ℕ) (d : Sided g.row.T.Denot) → k < l.b → k ≢ l.bunch → (get_or l.bunches.items k d).list ≡ without_one g.T.OfPair.pair_of l.pair (get_or l.initial.bunches.items k d).list)
    × ((k : ℕ) (d : Sided g.row.T.Denot) → l.b ≤ k → get_or l.bunches.items k d ≡ get_or l.initial.bunches.items k d)
    × ((room : ℕ) → All (λ s. room ≤ s.spare) l.initial.bunches.items → All (λ s. room ≤ s.spare) l.bunches.items)
    × (length l.bunches.items ≡ length l.initial.bunches.items)
