use Rattle.std.proofs.Common.{None}
use Rattle.bmx_replica.proofs.Slotted.{PutsSlot-from}
use Rattle.bmx_replica.proofs.directory.Directory.remove.Goals as goal

pub returns-clause-slots : goal.returns-clause-slots
returns-clause-slots c = rw (← c.self.view_is) (PutsSlot-from c.self.inside.slots.entries c.swap_remove.new.self.entries c.args.name None c.swap_remove.ensures.updates.0)
