use Rattle.std.proofs.Common.{drop, filter_map}
use Rattle.bmx_protocol.specs.Rules.{info_in}
use Rattle.bmx_node.proofs.Hearing.{Hearings}
use Rattle.bmx_node.proofs.holdings.Holdings.hear_fields.Given as goal

-- the Infos of the fields so far were heard
abbrev pub invariant-loop-field : goal.invariant-loop-field
invariant-loop-field l = Hearings l.fn.self l.self l.from (filter_map info_in (drop l.field-index l.fields)) (filter_map info_in l.fields)
