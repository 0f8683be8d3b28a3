use Rattle.std.proofs.Common.{take}
use Rattle.bmx_run.specs.Inside.Posting.{Sends}
use Rattle.bmx_run.proofs.events.send.Given as goal

abbrev pub invariant-loop-letter : goal.invariant-loop-letter
invariant-loop-letter l = Sends l.fn.lanes l.node l.event (take l.letter l.letters) l.lanes
