use Rattle.std.proofs.Common.{ap, ◌∙◌, arith}
use Rattle.bmx_mail.specs.Mails.{MailState, entering_of}
use Rattle.bmx_mail.proofs.Anchors.{one_entered}
use Rattle.bmx_mail.proofs.opening.enter_anchor.Goals as goal

pub loop-number-preserved : goal.loop-number-preserved
loop-number-preserved c =
    let new = c.enter.new.self in (
      one_entered (entering_of c.args.mail.now) (entering_of c.loop-number.mail) (entering_of new) c.args.bunch c.loop-number.number c.in-Some.name c.in-Some-new.bunch c.in-Some-new-2.node
          c.in-Some.ensures.value c.in-Some-new.ensures.value c.in-Some-new-2.ensures.value (omega (arith, c.loop-number.auto.number)) (c.requires.none c.loop-number.number) c.loop-number.invariant.0
          c.enter.ensures.entering,
      c.enter.ensures.rest ∙ ap (λ (m : MailState). record m { records = new.records; spare = new.spare }) c.loop-number.invariant.1,
      omega (arith, c.enter.ensures.spare, c.loop-number.invariant.2),
    )
