use Rattle.std.proofs.Common.{ℕ, ◌≤◌, ◌<◌, slice_index}
use Rattle.bmx_mail.proofs.mail.can_issue.Given as goal

-- the counts so far leave that room
abbrev pub invariant-loop-count : goal.invariant-loop-count
invariant-loop-count l = (k : ℕ) → k < l.count-index → slice_index l.issued k ≤ l.most
