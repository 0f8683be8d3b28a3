use Rattle.std.proofs.Common.{arith}
use Rattle.bmx_world.proofs.Placed.{next_found, next_missing}
use Rattle.bmx_world.proofs.texts.Places.next.Goals as goal

pub returns-in-Some : goal.returns-in-Some
returns-in-Some c counts are =
    next_found c.args.lines.now counts c.args.self.now.of_node c.args.node c.get.result c.get-in-Some.result 0 c.in-Some.at c.index-lines-at.result
    c.get.ensures.value c.get-in-Some.ensures.value (omega (arith, c.get.ensures.value, c.get.ensures.bound)) are c.in-Some.ensures c.index-lines-at.is

pub returns-in-None : goal.returns-in-None
returns-in-None c counts are =
    next_missing c.args.lines.now counts c.args.self.now.of_node c.args.node c.get.result 0
    c.get.ensures.value (omega (arith, c.get.ensures.value, c.get.ensures.bound)) are c.in-None.ensures
