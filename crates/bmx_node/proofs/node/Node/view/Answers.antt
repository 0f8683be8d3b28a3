use Rattle.std.proofs.Common.{◌≡◌, Some, subst}
use Rattle.bmx_token.specs.Tokens.{IsInOrder}
use Rattle.bmx_tokens.specs.Tables.{part_of}
use Rattle.bmx_node.specs.Stamped.{Stamped}
use Rattle.bmx_node.proofs.node.Node.view.Goals as goal

pub returns-clause-order : goal.returns-clause-order
returns-clause-order c = λ name p.
    subst (λ (n : Stamped). part_of n.holdings.tokens name ≡ Some p → IsInOrder p) c.self.view_is (λ there. (c.self.invariant.0.agree.fit name p there).ordered)
