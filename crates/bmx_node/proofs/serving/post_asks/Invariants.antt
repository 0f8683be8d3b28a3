use Rattle.std.proofs.Common.{◌≡◌, ◌+◌, ◌≤◌, List, ◌++◌, length, take}
use Rattle.bmx_protocol.specs.Rules.{Draft}
use Rattle.bmx_mail.specs.Mails.{MailState, CanIssue}
use Rattle.bmx_mail.specs.Inside.Posts.{Posts}
use Rattle.bmx_node.specs.Inside.Posting.{requests}
use Rattle.bmx_node.proofs.serving.post_asks.Given as goal

-- the requests so far are posted, and there is room for the others
abbrev pub invariant-loop-ask : goal.invariant-loop-ask
invariant-loop-ask l =
    ((first : MailState) (drafts : List Draft) → Posts first l.fn.mail l.fn.outbox.stamp drafts l.fn.outbox.letters →
    Posts first l.mail l.fn.outbox.stamp (drafts ++ requests l.to l.name (take l.ask-index l.asks)) l.outbox.letters)
    × (l.outbox.stamp ≡ l.fn.outbox.stamp)
    × (length l.asks ≤ l.outbox.room + l.ask-index)
    × CanIssue l.mail l.outbox.room
