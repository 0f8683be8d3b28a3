use Rattle.std.proofs.Common.{◌≡◌, ◌+◌, length, take}
use Rattle.bmx_msg.specs.Letters.{targets}
use Rattle.bmx_node.proofs.serving.names_brought.Given as goal

-- the names so far are counted
abbrev pub invariant-loop-field : goal.invariant-loop-field
invariant-loop-field l = l.count ≡ 1 + length (targets (take l.field-index l.fields))
