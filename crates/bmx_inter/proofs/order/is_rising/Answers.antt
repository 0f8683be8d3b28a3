use Rattle.std.proofs.Common.{rules}
use Rattle.std.proofs.lemmas.Fn.{always_returns_same}
use Rattle.bmx_inter.specs.Order.{is_ahead}
use Rattle.bmx_inter.proofs.Places.{IsInOrder-from_answer, answer-from_IsInOrder}
use Rattle.bmx_inter.proofs.order.is_rising.Goals as goal

pub returns-clause-rising : goal.returns-clause-rising
returns-clause-rising c = IsInOrder-from_answer c.args.pairs.now c.is_sorted_by.result (c.is_sorted_by.ensures.cases is_ahead (always_returns_same _ _ _ (λ a r f k. search rules)))

pub returns-clause-exact : goal.returns-clause-exact
returns-clause-exact c = answer-from_IsInOrder c.args.pairs.now c.is_sorted_by.result (c.is_sorted_by.ensures.cases is_ahead (always_returns_same _ _ _ (λ a r f k. search rules)))
