use Rattle.std.proofs.Common.{◌≡◌, drop}
use Rattle.bmx_msg.specs.Letters.{targets}
use Rattle.bmx_msg.proofs.given.first_target.Given as goal

-- the fields so far refer to nothing
abbrev pub invariant-loop-i : goal.invariant-loop-i
invariant-loop-i l = targets l.fields ≡ targets (drop l.i l.fields)
