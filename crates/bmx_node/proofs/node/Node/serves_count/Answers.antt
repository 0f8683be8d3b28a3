use Rattle.std.proofs.Common.{subst}
use Rattle.bmx_tokens.specs.Tables.{IsIndexed}
use Rattle.bmx_node.specs.Stamped.{Stamped}
use Rattle.bmx_node.proofs.Telling.{all_served_at}
use Rattle.bmx_node.proofs.node.Node.serves_count.Goals as goal

pub returns-clause-all : goal.returns-clause-all
returns-clause-all c =
    all_served_at (record { holdings = c.self.inside.holdings; stamp = c.self.inside.stamp }) c.args.self.now c.self.view_is c.self.invariant.0 (subst (λ (n : Stamped). IsIndexed n.holdings.tokens) c.self.view_is c.serves-index.ensures.index)
