use Rattle.std.proofs.Common.{arith}
use Rattle.bmx_node.specs.Openings.{setting_of}
use Rattle.bmx_node.proofs.FewMoves.{few_opened}
use Rattle.bmx_node.proofs.node.Node.open.Goals as goal

pub invariant_of-result : goal.invariant_of-result
invariant_of-result c = (
  c.in_ok-holdings.ensures.keeps,
  c.in_ok-holdings.ensures.few,
  omega arith,
  few_opened (setting_of c.args.opening.now) c.args.me _ c.in_ok-holdings.ensures.node,
)
