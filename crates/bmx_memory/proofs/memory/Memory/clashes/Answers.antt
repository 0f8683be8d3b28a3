use Rattle.bmx_memory.specs.Shown.{shown}
use Rattle.bmx_memory.proofs.Clashing.{clashes_same}
use Rattle.bmx_memory.proofs.memory.Memory.clashes.Goals as goal

pub returns : goal.returns
unfolding shown
returns c = λ from parts. rw (← c.self.view_is) (clashes_same c.self.inside.replica c.args.msg.now from parts c.clashes.result c.clashes.ensures)
