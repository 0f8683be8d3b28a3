use Rattle.bmx_token.proofs.Order.{keeps_order}
use Rattle.bmx_token.proofs.laws.keeps_order.Goals as goal

pub returns : goal.returns
returns c = keeps_order
