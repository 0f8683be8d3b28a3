use Rattle.std.proofs.Common.{◌≡◌, ◌-◌, length, take}
use Rattle.bmx_table.proofs.tables.stubs_of.Given as goal

abbrev pub invariant-loop-pair : goal.invariant-loop-pair
invariant-loop-pair g l = take (length l.pairs.items) (g.R.Rows.stubs l.rows l.bunch) ≡ l.pairs.items

abbrev pub decreases-loop-pair : goal.decreases-loop-pair
decreases-loop-pair g l = length (g.R.Rows.stubs l.rows l.bunch) - length l.pairs.items
