use Rattle.std.proofs.Common.{◌≡◌, ◌+◌, ◌≤◌, length, take}
use Rattle.bmx_memory.specs.Contents.{room_of}
use Rattle.bmx_memory.specs.Shown.{shown}
use Rattle.bmx_node.specs.Inside.Births.{setting_of}
use Rattle.bmx_node.proofs.Firsts.{heard}
use Rattle.bmx_node.proofs.others.heard_memory.Given as goal

-- it has heard of the anchors so far
abbrev pub invariant-loop-birth : goal.invariant-loop-birth
invariant-loop-birth l = record {
  shown : shown l.memory ≡ heard l.fn.me (setting_of l.opening) (take l.birth-index l.anchors);
  room : length l.anchors ≤ room_of l.memory + l.birth-index;
}
