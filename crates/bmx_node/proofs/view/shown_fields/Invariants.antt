use Rattle.std.proofs.Common.{◌≡◌, take, map}
use Rattle.bmx_protocol.specs.Rules.{heard_field}
use Rattle.bmx_node.proofs.view.shown_fields.Given as goal

-- the fields so far
abbrev pub invariant-loop-field : goal.invariant-loop-field
invariant-loop-field l = l.views ≡ map heard_field (take l.field-index l.fields)
