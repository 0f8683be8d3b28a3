use Rattle.std.proofs.Common.{◌≡◌}
use Rattle.bmx_mail.specs.Mails.{entering_of, issued_of, taken_of}
use Rattle.bmx_mail.specs.Inside.Anchors.{anchors_entering}
use Rattle.bmx_mail.proofs.opening.first.Given as goal

-- the anchors so far
abbrev pub invariant-loop-bunch : goal.invariant-loop-bunch
invariant-loop-bunch l = (entering_of l.mail ≡ anchors_entering l.nodes l.bunch) × (issued_of l.mail ≡ (λ _. 0)) × (taken_of l.mail ≡ (λ _. 0))
