use Rattle.std.proofs.Common.{List, [], ◌∷◌, sym, ◌∙◌, ap}
use Rattle.bmx_types.specs.declared.commands.Refusal.TheVariants as refusal
use Rattle.bmx_msg.specs.declared.letters.Msg.TheVariants.{InvAck}
use Rattle.bmx_token.specs.Transitions.{Releases}
use Rattle.bmx_protocol.specs.declared.inputs.NodeAnswer.TheVariants as answer
use Rattle.bmx_protocol.specs.declared.inputs.Sending.{Sending}
use Rattle.bmx_mail.specs.Mails.{next_letter}
use Rattle.bmx_node.proofs.Operating.{does_unknown, release_free, release_refused, release_answers, release_keeps, release_keeps_cleared, frame_tokens, frame_cleared, does_done, sent_one, tracked_letter}
use Rattle.bmx_node.proofs.holdings.Holdings.release_name.Goals as goal

pub returns-in_default-clause-does : goal.returns-in_default-clause-does
returns-in_default-clause-does c =
    rw c.refuse.ensures (does_unknown c.args.stamp c.args.self.now Releases (answer.Refused refusal.Empty) c.args.name c.requires (rw c.in_default.is at c.get.ensures.none))

pub returns-in-Free-clause-does : goal.returns-in-Free-clause-does
returns-in-Free-clause-does c = rw c.tell.ensures (release_free c.args.stamp c.args.self.now (answer.Refused refusal.Empty) c.args.name c.in-Some.part.now c.requires c.in-Some.ensures.some c.release.new.self c.in_ok-release.ensures.part (sym c.in-Free.is ∙ c.in_ok-release.ensures.answer))

pub returns-in-Free-clause-keeps : goal.returns-in-Free-clause-keeps
returns-in-Free-clause-keeps c = release_keeps c.args.stamp c.args.self.now (answer.Refused refusal.Empty) c.args.name c.in-Some.part.now c.requires c.in-Some.ensures.some c.release.new.self c.in_ok-release.ensures.part

pub returns-in-Free-clause-frame : goal.returns-in-Free-clause-frame
returns-in-Free-clause-frame c = frame_tokens c.args.self.now c.release.new.self c.args.self.now.mail

pub returns-in-Refused-clause-does : goal.returns-in-Refused-clause-does
returns-in-Refused-clause-does c = rw c.refuse-in-Refused.ensures (release_refused c.args.stamp c.args.self.now (answer.Refused refusal.Empty) c.args.name c.in-Some.part.now c.requires c.in-Some.ensures.some c.release.new.self c.in_ok-release.ensures.part (sym c.in-Refused.is ∙ c.in_ok-release.ensures.answer))

pub returns-in-Refused-clause-keeps : goal.returns-in-Refused-clause-keeps
returns-in-Refused-clause-keeps c = release_keeps c.args.stamp c.args.self.now (answer.Refused refusal.Empty) c.args.name c.in-Some.part.now c.requires c.in-Some.ensures.some c.release.new.self c.in_ok-release.ensures.part

pub returns-in-Refused-clause-frame : goal.returns-in-Refused-clause-frame
returns-in-Refused-clause-frame c = frame_tokens c.args.self.now c.release.new.self c.args.self.now.mail

pub returns-in-Answers-clause-does : goal.returns-in-Answers-clause-does
returns-in-Answers-clause-does c =
    let h = c.args.self.now in
    let opened = c.in_ok-outbox.ensures.outbox in
    does_done c.args.stamp h _ _ (record { answer = answer.Nil; letters = next_letter h.mail c.args.stamp c.in-Answers.owner (InvAck c.args.name) ∷ [] }) c.answer.result
    (c.answer.ensures ∙ ap (λ (l : List Sending). record { answer = answer.Nil; letters = l })
    (sent_one h.mail c.post.new.self c.args.stamp c.in-Answers.owner c.if-is_some.most (InvAck c.args.name) c.in_ok-outbox.outbox c.post.new.outbox opened c.post.ensures.outbox))
    (release_answers c.args.stamp c.args.self.now (answer.Refused refusal.Empty) c.args.name c.in-Some.part.now c.requires c.in-Some.ensures.some c.release.new.self c.clear_copy.new.self c.post.new.self c.in-Answers.owner c.in_ok-release.ensures.part
    (sym c.in-Answers.is ∙ c.in_ok-release.ensures.answer) c.clear_copy.ensures.shown
    (λ s. tracked_letter h.mail c.post.new.self c.args.stamp c.in-Answers.owner c.if-is_some.most (InvAck c.args.name) c.in_ok-outbox.outbox c.post.new.outbox opened c.post.ensures.change s tt))

pub returns-in-Answers-clause-keeps : goal.returns-in-Answers-clause-keeps
returns-in-Answers-clause-keeps c = release_keeps_cleared c.args.stamp c.args.self.now (answer.Refused refusal.Empty) c.args.name c.in-Some.part.now c.requires c.in-Some.ensures.some c.release.new.self c.clear_copy.new.self c.post.new.self c.in-Answers.owner c.in_ok-release.ensures.part
    (sym c.in-Answers.is ∙ c.in_ok-release.ensures.answer) c.clear_copy.ensures.shown

pub returns-in-Answers-clause-frame : goal.returns-in-Answers-clause-frame
returns-in-Answers-clause-frame c = frame_cleared c.args.self.now c.release.new.self c.clear_copy.new.self c.post.new.self c.args.name c.clear_copy.ensures.shown
