use Rattle.std.proofs.Common.{◌≡◌, ℕ, ◌<◌, false, not, ◌&&◌, eqb}
use Rattle.bmx_graph.specs.Inside.Parts.{excludes}
use Rattle.bmx_graph.proofs.decisions.is_excluded.Given as goal

abbrev pub invariant-loop-number : goal.invariant-loop-number
invariant-loop-number g l = (m : ℕ) → m < l.number → (not (eqb m l.node) && excludes l.wanted ((g.S.Sight.graph l.sight).held m l.name)) ≡ false
