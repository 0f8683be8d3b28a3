use Rattle.std.proofs.Common.{◌∙◌}
use Rattle.bmx_inter.proofs.Places.{is_listed-searched}
use Rattle.bmx_inter.proofs.order.is_listed.Goals as goal

pub returns-then-rising : goal.returns-then-rising
returns-then-rising c = c.is_ok.ensures.value ∙ is_listed-searched c.args.pairs.now c.args.pair c.search.result c.search.ensures
