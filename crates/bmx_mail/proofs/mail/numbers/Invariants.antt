use Rattle.std.proofs.Common.{slice_index}
use Rattle.bmx_protocol.specs.Nodes.{AreNumbers}
use Rattle.bmx_mail.proofs.mail.numbers.Given as goal

-- the counts of the nodes so far
abbrev pub invariant-loop-node : goal.invariant-loop-node
invariant-loop-node l = AreNumbers l.node l.numbers (slice_index l.counts)
