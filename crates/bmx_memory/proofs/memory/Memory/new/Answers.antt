use Rattle.std.proofs.Common.{None}
use Rattle.bmx_memory.specs.contracts.memory.Memory.{the_view}
use Rattle.bmx_memory.proofs.Shows.{shown_none}
use Rattle.bmx_memory.proofs.memory.Memory.new.Goals as goal

pub returns : goal.returns
returns c = shown_none (the_view (record { replica = c.new-replica.result; registers = c.new-registers.result; seen = None })) c.args.me c.args.limit c.new-replica.ensures.slots c.new-replica.ensures.heap c.new-registers.ensures
