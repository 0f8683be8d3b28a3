use Rattle.std.proofs.Common.{List, [], ◌∷◌, refl, ◌∙◌, ap}
use Rattle.bmx_msg.specs.declared.letters.Msg.TheVariants as msg
use Rattle.bmx_protocol.specs.declared.inputs.NodeAnswer.TheVariants as answer
use Rattle.bmx_protocol.specs.declared.inputs.Sending.{Sending}
use Rattle.bmx_mail.specs.Mails.{next_letter}
use Rattle.bmx_node.proofs.Operating.{frame_tokens, keeps_mail, sent_one, tracked_sent}
use Rattle.bmx_node.proofs.Notes.{recall_unknown, counted_after, took_so}
use Rattle.bmx_node.proofs.holdings.Holdings.return_nothing.Goals as goal

pub returns-clause-takes : goal.returns-clause-takes
returns-clause-takes c =
    let h = c.args.self.now in
    let name = c.args.name in
    let stamp = c.args.taking.stamp in
    let from = c.args.taking.from in
    let cnt = c.count_taken.new.self in
    let opened = c.in_ok-outbox.ensures.outbox in
    let l : Sending = next_letter h.mail stamp from (msg.InvAck name) in
    took_so stamp h (record h { mail = cnt }) (record h { mail = cnt }) from c.args.taking.seq (msg.Inval name) (record { answer = answer.Nil; letters = l ∷ [] }) c.answer.result
    (c.answer.ensures ∙ ap (λ (x : List Sending). record { answer = answer.Nil; letters = x }) (sent_one h.mail c.post.new.self stamp from 1 (msg.InvAck name) c.in_ok-outbox.outbox c.post.new.outbox opened c.post.ensures.outbox))
    refl
    (recall_unknown stamp h cnt from c.args.taking.seq name c.requires.keeps c.requires.unknown
    (counted_after h.mail c.post.new.self cnt from l refl c.count_taken.ensures.change
    (λ s. tracked_sent h.mail c.post.new.self stamp from 1 (msg.InvAck name) c.in_ok-outbox.outbox c.post.new.outbox opened c.post.ensures.change s tt)))

pub returns-clause-keeps : goal.returns-clause-keeps
returns-clause-keeps c = keeps_mail c.args.self.now c.count_taken.new.self c.requires.keeps

pub returns-clause-frame : goal.returns-clause-frame
returns-clause-frame c = frame_tokens c.args.self.now c.args.self.now.tokens c.count_taken.new.self
