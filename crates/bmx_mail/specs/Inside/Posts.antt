-- Drafts posted one after another.
use Rattle.std.specs.Prelude.{◌≡◌, ℕ, ◌+◌, List, [], ◌∷◌}
use Rattle.std.specs.List.{flat_map}
use Rattle.bmx_types.specs.Updates.{put}
use Rattle.bmx_protocol.specs.declared.inputs.Sending.{Sending}
use Rattle.bmx_protocol.specs.Nodes.{NodeState}
use Rattle.bmx_protocol.specs.Rules.{Draft}
use Rattle.bmx_protocol.specs.Steps.{numbered, sent_changes}
use Rattle.bmx_mail.specs.Mails.{MailState, issued_of, Tracks, TellsBunches}

-- drafts tell the bunches that the node knows
abbrev pub TellBunches : NodeState → List Draft → Type 0
TellBunches s [] = Unit {0}
TellBunches s (d ∷ drafts) = TellsBunches s d.msg × TellBunches s drafts

-- how many letters were issued to each node once drafts were posted
abbrev pub issued_after : (ℕ → ℕ) → List Draft → ℕ → ℕ
issued_after issued [] = issued
issued_after issued (d ∷ drafts) = issued_after (put issued d.to (issued d.to + 1)) drafts

-- drafts are posted, one after another: the letters are those drafts numbered, and the mail follows what they change
pub record Posts (old new : MailState) (stamp : ℕ) (drafts : List Draft) (letters : List Sending) : Type 0 where
  pub letters_are : letters ≡ numbered (issued_of old) stamp drafts
  pub issued : issued_of new ≡ issued_after (issued_of old) drafts
  pub change : Tracks old new (flat_map sent_changes letters) (λ s. TellBunches s drafts)
