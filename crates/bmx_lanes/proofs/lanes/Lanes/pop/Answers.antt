use Rattle.std.proofs.Common.{drop}
use Rattle.bmx_lanes.proofs.Sending.{inbox_set}
use Rattle.bmx_lanes.proofs.lanes.Lanes.pop.Goals as goal

pub returns-clause-rest : goal.returns-clause-rest
returns-clause-rest g c = rw (← c.self.view_is) (inbox_set c.self.inside.inboxes.items c.get.result c.args.from c.args.to c.index_mut.result.now c.pop.new.self (drop 1)
    c.self.invariant c.get.ensures.bound c.get.ensures.value c.index_mut.ensures.value c.pop.ensures.rest)
