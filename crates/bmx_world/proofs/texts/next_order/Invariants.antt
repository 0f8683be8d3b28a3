use Rattle.std.proofs.Common.{◌≡◌, drop}
use Rattle.bmx_world.specs.Inside.Printing.{program_of}
use Rattle.bmx_world.proofs.texts.next_order.Given as goal

-- up to here there is none
abbrev pub invariant-loop-at : goal.invariant-loop-at
invariant-loop-at l = program_of (drop l.at l.lines) l.node ≡ program_of (drop l.from l.lines) l.node
