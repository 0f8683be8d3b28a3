use Rattle.std.proofs.Common.{Some}
use Rattle.bmx_replica.proofs.Slotted.{PutsSlot-from}
use Rattle.bmx_replica.proofs.directory.Directory.add.Goals as goal

pub returns-clause-slots : goal.returns-clause-slots
returns-clause-slots c = rw (← c.self.view_is) (PutsSlot-from c.self.inside.slots.entries c.insert.new.self.entries c.args.name (Some c.args.slot) c.in-Ok.ensures.updates.0)
