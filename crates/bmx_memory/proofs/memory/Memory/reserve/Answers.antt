use Rattle.std.proofs.Common.{ap, ◌∙◌}
use Rattle.bmx_memory.specs.Shown.{shown}
use Rattle.bmx_memory.specs.contracts.memory.Memory.{the_view}
use Rattle.bmx_memory.proofs.Shows.{shown_same}
use Rattle.bmx_memory.proofs.memory.Memory.reserve.Goals as goal

pub returns-clause-shown : goal.returns-clause-shown
returns-clause-shown c =
    let new = c.reserve-reserved.new.self in
    shown_same (the_view c.self.inside) new new.heap.spare c.reserve-reserved.ensures.slots c.reserve-reserved.ensures.heap ∙ ap shown c.self.view_is
