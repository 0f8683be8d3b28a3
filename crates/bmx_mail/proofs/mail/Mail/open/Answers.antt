use Rattle.std.proofs.Common.{ap, sym, ◌∙◌, Result, Ok, Err, IfOk}
use Rattle.bmx_protocol.specs.Nodes.{Setting, first_entering}
use Rattle.bmx_mail.specs.Inside.Anchors.{anchors_entering}
use Rattle.bmx_mail.proofs.Anchors.{anchors_are}
use Rattle.bmx_mail.proofs.mail.Mail.open.Goals as goal

IfOk-from : {T E : Type 0} {P Q : T → Type 0} (r : Result T E) → ((x : T) → P x → Q x) → IfOk r P → IfOk r Q
IfOk-from (Ok x) then h = then x h
IfOk-from (Err e) then h = tt

pub returns-then-get-eq0-clause-entering : goal.returns-then-get-eq0-clause-entering
returns-then-get-eq0-clause-entering c =
    let o = c.args.opening.now in
    let st : Setting = record { nodes = o.nodes; limit = o.limit; births = o.births } in
    IfOk-from c.first.result
    (λ mail is. is ∙ ap (anchors_entering o.nodes) c.requires ∙ anchors_are st o.opened.born ∙ ap (first_entering st) (sym c.if-get-eq0.true ∙ c.get.ensures.value))
    c.first.ensures.entering
