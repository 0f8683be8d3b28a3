use Rattle.std.proofs.Common.{◌≡◌, take, filter_map}
use Rattle.bmx_memory.specs.Shown.{shown}
use Rattle.bmx_tokens.specs.Tables.{part_of}
use Rattle.bmx_node.specs.Inside.Viewing.{entry_with}
use Rattle.bmx_node.proofs.view.entries_of.Given as goal

-- the entries of the names so far
abbrev pub invariant-loop-name : goal.invariant-loop-name
invariant-loop-name l = l.entries ≡ filter_map (entry_with (shown l.memory).object (part_of l.tokens)) (take l.name-index l.names)
