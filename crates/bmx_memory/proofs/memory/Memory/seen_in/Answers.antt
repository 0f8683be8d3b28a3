use Rattle.bmx_memory.specs.Shown.{shown}
use Rattle.bmx_memory.proofs.Told.{target_is}
use Rattle.std.proofs.Common.{sym}
use Rattle.bmx_memory.proofs.memory.Memory.seen_in.Goals as goal

pub returns : goal.returns
returns c = record {
  stands = c.in_ok-object.ensures.stands;
  refers = target_is ((shown c.args.self.now).register c.args.register) c.in_ok-object.object.header.name (sym c.in_ok-object.ensures.named);
}
