use Rattle.std.proofs.Common.{rules, ◌≡◌, ℕ, List, [], ◌∷◌, Some, None, IsSome, refl, sym, ◌∙◌, ap, subst}
use Rattle.bmx_msg.specs.declared.letters.Msg.TheVariants as msg
use Rattle.bmx_tokens.specs.Tables.{part_of}
use Rattle.bmx_protocol.specs.declared.inputs.NodeAnswer.TheVariants as answer
use Rattle.bmx_protocol.specs.declared.inputs.Sending.{Sending}
use Rattle.bmx_protocol.specs.Changes.{Takes}
use Rattle.bmx_mail.specs.Mails.{OutboxState, Tracks, next_letter}
use Rattle.bmx_node.specs.declared.holdings.Holdings.{Holdings}
use Rattle.bmx_node.specs.Inside.Keeping.{Keeps, Frame}
use Rattle.bmx_node.proofs.Operating.{frame_tokens, frame_cleared, keeps_mail, sent_one, tracked_sent}
use Rattle.bmx_node.proofs.Notes.{recall_stray, recall_later, recall_now, recall_keeps, recall_keeps_cleared, counted_after, took_so}
use Rattle.bmx_node.proofs.holdings.Holdings.recalled.Goals.{in-Some-AtRelease, in-Some-Now}
use Rattle.bmx_node.proofs.holdings.Holdings.recalled.Goals as goal

pub returns-in-None-clause-takes : goal.returns-in-None-clause-takes
returns-in-None-clause-takes c =
    let h = c.args.self.now in
    let name = c.args.name in
    let there : IsSome (part_of h.tokens name) = search rules in
    rw c.tell.ensures (recall_stray c.args.taking.stamp h c.args.taking.from c.args.taking.seq name c.requires.keeps there c.inval.new.self c.has_copy-copy.result c.has_copy-copy.ensures c.in_ok-inval.ensures.part (sym c.in_ok-inval.ensures.answer ∙ c.in-None.is))

pub returns-in-None-clause-keeps : goal.returns-in-None-clause-keeps
returns-in-None-clause-keeps c =
    let h = c.args.self.now in
    let there : IsSome (part_of h.tokens c.args.name) = search rules in
    recall_keeps c.args.taking.stamp h c.args.taking.from c.args.taking.seq c.args.name c.requires.keeps there c.inval.new.self h.mail c.has_copy-copy.result c.in_ok-inval.ensures.part

pub returns-in-None-clause-frame : goal.returns-in-None-clause-frame
returns-in-None-clause-frame c = frame_tokens c.args.self.now c.inval.new.self c.args.self.now.mail

pub returns-clause-takes : goal.returns-clause-takes
returns-clause-takes c =
    let h = c.args.self.now in
    let name = c.args.name in
    let stamp = c.args.taking.stamp in
    let from = c.args.taking.from in
    let seq = c.args.taking.seq in
    let cnt = c.count_taken.new.self in
    let opened = c.in_ok-outbox.ensures.outbox in
    let there : IsSome (part_of h.tokens name) = search rules in
    let l : Sending = next_letter h.mail stamp from (msg.InvAck name) in
    elim c.match-this.branch [
      | in-Some-AtRelease w ↦
          took_so stamp h (record h { tokens = c.inval.new.self; mail = cnt }) (record c.match-this.self { mail = cnt }) from seq (msg.Inval name) (record { answer = answer.Nil; letters = [] }) c.answer.result
          (c.answer.ensures ∙ ap (λ (b : OutboxState). record { answer = answer.Nil; letters = b.letters }) (w.outbox-is ∙ opened))
          (ap (λ (x : Holdings). record x { mail = cnt }) w.self-is)
          (recall_later stamp h from seq name c.requires.keeps there c.inval.new.self cnt c.has_copy-copy.result c.has_copy-copy.ensures c.in_ok-inval.ensures.part (search rules)
          (subst (λ (x : Holdings). Tracks x.mail cnt (Takes from ∷ []) (λ _. Unit {0})) w.self-is c.count_taken.ensures.change))
      | in-Some-Now w ↦
          took_so stamp h (record h { tokens = c.inval.new.self; memory = w.clear_copy.new.self; mail = cnt }) (record c.match-this.self { mail = cnt }) from seq (msg.Inval name) (record { answer = answer.Nil; letters = l ∷ [] }) c.answer.result
          (c.answer.ensures ∙ ap (λ (b : OutboxState). record { answer = answer.Nil; letters = b.letters }) w.outbox-is
          ∙ ap (λ (x : List Sending). record { answer = answer.Nil; letters = x }) (sent_one h.mail w.post.new.self stamp from c.letters_to_recall-most.result (msg.InvAck name) c.in_ok-outbox.outbox w.post.new.outbox opened w.post.ensures.outbox))
          (ap (λ (x : Holdings). record x { mail = cnt }) w.self-is)
          (recall_now stamp h from seq name c.requires.keeps there c.inval.new.self w.clear_copy.new.self cnt c.has_copy-copy.result c.has_copy-copy.ensures c.in_ok-inval.ensures.part (search rules) w.clear_copy.ensures.shown
          (counted_after h.mail w.post.new.self cnt from l refl (subst (λ (x : Holdings). Tracks x.mail cnt (Takes from ∷ []) (λ _. Unit {0})) w.self-is c.count_taken.ensures.change)
          (λ s. tracked_sent h.mail w.post.new.self stamp from c.letters_to_recall-most.result (msg.InvAck name) c.in_ok-outbox.outbox w.post.new.outbox opened w.post.ensures.change s tt)))
    ]

pub returns-clause-keeps : goal.returns-clause-keeps
returns-clause-keeps c =
    let h = c.args.self.now in
    let name = c.args.name in
    let stamp = c.args.taking.stamp in
    let from = c.args.taking.from in
    let seq = c.args.taking.seq in
    let cnt = c.count_taken.new.self in
    let there : IsSome (part_of h.tokens name) = search rules in
    elim c.match-this.branch [
      | in-Some-AtRelease w ↦ subst (λ (x : Holdings). Keeps (record x { mail = cnt })) (sym w.self-is)
          (recall_keeps stamp h from seq name c.requires.keeps there c.inval.new.self cnt c.has_copy-copy.result c.in_ok-inval.ensures.part)
      | in-Some-Now w ↦ subst (λ (x : Holdings). Keeps (record x { mail = cnt })) (sym w.self-is)
          (recall_keeps_cleared stamp h from seq name c.requires.keeps there c.inval.new.self w.clear_copy.new.self cnt c.has_copy-copy.result c.in_ok-inval.ensures.part (search rules) w.clear_copy.ensures.shown)
    ]

pub returns-clause-frame : goal.returns-clause-frame
returns-clause-frame c =
    let h = c.args.self.now in
    let cnt = c.count_taken.new.self in
    elim c.match-this.branch [
      | in-Some-AtRelease w ↦ subst (λ (x : Holdings). Frame h (record x { mail = cnt })) (sym w.self-is) (frame_tokens h c.inval.new.self cnt)
      | in-Some-Now w ↦ subst (λ (x : Holdings). Frame h (record x { mail = cnt })) (sym w.self-is) (frame_cleared h c.inval.new.self w.clear_copy.new.self cnt c.args.name w.clear_copy.ensures.shown)
    ]
