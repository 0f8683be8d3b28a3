use Rattle.std.proofs.Common.{◌≡◌, ◌+◌, ◌≤◌, length, take, filter_map}
use Rattle.bmx_msg.specs.Letters.{targets}
use Rattle.bmx_protocol.specs.Rules.{info_in}
use Rattle.bmx_mail.specs.Mails.{with_names_given}
use Rattle.bmx_mail.proofs.mail.give_fields.Given as goal

-- the names so far are recorded
abbrev pub invariant-loop-field : goal.invariant-loop-field
invariant-loop-field l =
    (l.records.list ≡ with_names_given l.fn.records.list (filter_map info_in (take l.field-index l.fields)) l.to l.seq)
    × (l.fn.records.spare ≤ l.records.spare + length (targets (take l.field-index l.fields)))
