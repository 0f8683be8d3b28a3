use Rattle.std.proofs.Common.{◌≡◌, ◌-◌, length, take}
use Rattle.bmx_table.proofs.tables.children_of.Given as goal

abbrev pub invariant-loop-name : goal.invariant-loop-name
invariant-loop-name g l = take (length l.names.items) (g.R.Rows.children l.rows l.bunch l.to) ≡ l.names.items

abbrev pub decreases-loop-name : goal.decreases-loop-name
decreases-loop-name g l = length (g.R.Rows.children l.rows l.bunch l.to) - length l.names.items
