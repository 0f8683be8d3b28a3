use Rattle.bmx_embedding.proofs.Opened.{AreFirst}
use Rattle.bmx_embedding.proofs.nodes.Nodes.open.Given as goal

abbrev pub invariant-loop-number : goal.invariant-loop-number
invariant-loop-number l = AreFirst l.number l.nodes.items
