use Rattle.std.proofs.Common.{◌≡◌, ◌+◌, ◌≤◌, List, ◌++◌, length, take}
use Rattle.bmx_protocol.specs.Rules.{Draft}
use Rattle.bmx_mail.specs.Mails.{MailState, CanIssue}
use Rattle.bmx_mail.specs.Inside.Posts.{Posts}
use Rattle.bmx_node.specs.Inside.Posting.{recalls}
use Rattle.bmx_node.proofs.serving.post_recalls.Given as goal

-- the recalls so far are posted, and there is room for the others
abbrev pub invariant-loop-node : goal.invariant-loop-node
invariant-loop-node l =
    ((first : MailState) (drafts : List Draft) → Posts first l.fn.mail l.fn.outbox.stamp drafts l.fn.outbox.letters →
    Posts first l.mail l.fn.outbox.stamp (drafts ++ recalls l.name (take l.node-index l.nodes)) l.outbox.letters)
    × (l.outbox.stamp ≡ l.fn.outbox.stamp)
    × (length l.nodes ≤ l.outbox.room + l.node-index)
    × CanIssue l.mail l.outbox.room
