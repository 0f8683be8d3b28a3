use Rattle.std.proofs.Common.{◌∙◌}
use Rattle.bmx_replica.proofs.Slotted.{slot_of-lookup}
use Rattle.bmx_replica.proofs.directory.Directory.get.Goals as goal

pub returns : goal.returns
returns c = rw (← c.self.view_is) (c.copied.ensures ∙ (c.get.ensures.value ∙ slot_of-lookup c.self.inside.slots.entries c.args.name))
