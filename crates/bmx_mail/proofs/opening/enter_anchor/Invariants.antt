use Rattle.std.proofs.Common.{◌≡◌, ◌+◌, ◌≤◌}
use Rattle.bmx_mail.specs.Mails.{entering_of}
use Rattle.bmx_mail.specs.Inside.Anchors.{with_anchor}
use Rattle.bmx_mail.proofs.opening.enter_anchor.Given as goal

-- the nodes so far
abbrev pub invariant-loop-number : goal.invariant-loop-number
invariant-loop-number l =
    (entering_of l.mail ≡ with_anchor (entering_of l.fn.mail) l.number l.fn.bunch)
    × (l.mail ≡ record l.fn.mail { records = l.mail.records; spare = l.mail.spare })
    × (l.fn.mail.spare + 1 ≤ l.mail.spare + l.number)
