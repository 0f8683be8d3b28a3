use Rattle.std.proofs.Common.{◌≡◌, false, take}
use Rattle.bmx_protocol.specs.Nodes.{Setting, NodeState}
use Rattle.bmx_node.specs.Inside.Screens.{Screens, has_bad_info}
use Rattle.bmx_node.proofs.strays.Screen.has_bad_info.Given as goal

-- the fields so far bring no bad Info
abbrev pub invariant-loop-field : goal.invariant-loop-field
invariant-loop-field l = (st : Setting) (s : NodeState) → Screens l.self st s → has_bad_info st l.self.me s (take l.field-index l.fields) ≡ false
