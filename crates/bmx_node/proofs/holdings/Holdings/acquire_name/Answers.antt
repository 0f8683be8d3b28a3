use Rattle.std.proofs.Common.{◌≡◌, List, [], ◌∷◌, refl, sym, ◌∙◌, ap, subst}
use Rattle.std.specs.List.{flat_map}
use Rattle.bmx_msg.specs.declared.letters.Msg.{Msg}
use Rattle.bmx_protocol.specs.declared.inputs.Sending.{Sending}
use Rattle.bmx_protocol.specs.Changes.{after_changes}
use Rattle.bmx_protocol.specs.Rules.{told_fields}
use Rattle.bmx_protocol.specs.Steps.{sent_changes}
use Rattle.bmx_mail.specs.Mails.{with_mail, next_letter, TellsBunches}
use Rattle.bmx_node.specs.Seen.{state_of}
use Rattle.bmx_node.specs.Inside.Reacting.{lies_at, request_msg}
use Rattle.bmx_types.specs.declared.commands.Refusal.TheVariants as refusal
use Rattle.bmx_token.specs.declared.answers.Acquire.TheVariants as acquire_is
use Rattle.bmx_token.specs.Transitions.{Acquires, Asks, send}
use Rattle.bmx_protocol.specs.declared.inputs.NodeAnswer.TheVariants as answer
use Rattle.bmx_node.proofs.Operating.{does_unknown, acquire_does, acquire_refused, acquire_keeps, tracked_none, frame_tokens, request_is, request_tells, does_done, sent_one, tracked_sent}
use Rattle.bmx_node.proofs.holdings.Holdings.acquire_name.Goals as goal

pub returns-in_default-clause-does : goal.returns-in_default-clause-does
returns-in_default-clause-does c =
    rw c.refuse.ensures (does_unknown c.args.stamp c.args.self.now (Acquires c.args.mode) (answer.Refused refusal.Empty) c.args.name c.requires (rw c.in_default.is at c.get.ensures.none))

pub returns-in-Held-clause-does : goal.returns-in-Held-clause-does
returns-in-Held-clause-does c =
    rw c.tell.ensures (acquire_does c.args.stamp c.args.self.now (answer.Refused refusal.Empty) c.args.name c.in-Some.part.now c.args.mode c.has_copy-copy.result c.requires c.in-Some.ensures.some c.has_copy-copy.ensures
    c.acquire.new.self c.args.self.now.mail acquire_is.Held [] [] c.in_ok-acquire.ensures.part (sym c.in-Held.is ∙ c.in_ok-acquire.ensures.answer) (λ x q. refl) refl (tracked_none c.args.self.now.mail))

pub returns-in-Held-clause-keeps : goal.returns-in-Held-clause-keeps
returns-in-Held-clause-keeps c = acquire_keeps c.args.stamp c.args.self.now (answer.Refused refusal.Empty) c.args.name c.in-Some.part.now c.args.mode c.has_copy-copy.result c.requires c.in-Some.ensures.some c.has_copy-copy.ensures
    c.acquire.new.self c.args.self.now.mail c.in_ok-acquire.ensures.part

pub returns-in-Held-clause-frame : goal.returns-in-Held-clause-frame
returns-in-Held-clause-frame c = frame_tokens c.args.self.now c.acquire.new.self c.args.self.now.mail

pub returns-in-Waits-clause-does : goal.returns-in-Waits-clause-does
returns-in-Waits-clause-does c =
    rw c.tell-in-Waits.ensures (acquire_does c.args.stamp c.args.self.now (answer.Refused refusal.Empty) c.args.name c.in-Some.part.now c.args.mode c.has_copy-copy.result c.requires c.in-Some.ensures.some c.has_copy-copy.ensures
    c.acquire.new.self c.args.self.now.mail acquire_is.Waits [] [] c.in_ok-acquire.ensures.part (sym c.in-Waits.is ∙ c.in_ok-acquire.ensures.answer) (λ x q. refl) refl (tracked_none c.args.self.now.mail))

pub returns-in-Waits-clause-keeps : goal.returns-in-Waits-clause-keeps
returns-in-Waits-clause-keeps c = acquire_keeps c.args.stamp c.args.self.now (answer.Refused refusal.Empty) c.args.name c.in-Some.part.now c.args.mode c.has_copy-copy.result c.requires c.in-Some.ensures.some c.has_copy-copy.ensures
    c.acquire.new.self c.args.self.now.mail c.in_ok-acquire.ensures.part

pub returns-in-Waits-clause-frame : goal.returns-in-Waits-clause-frame
returns-in-Waits-clause-frame c = frame_tokens c.args.self.now c.acquire.new.self c.args.self.now.mail

pub returns-in-Refused-clause-does : goal.returns-in-Refused-clause-does
returns-in-Refused-clause-does c =
    rw c.refuse-in-Refused.ensures (acquire_refused c.args.stamp c.args.self.now (answer.Refused refusal.Empty) c.args.name c.in-Some.part.now c.args.mode c.has_copy-copy.result c.requires c.in-Some.ensures.some c.has_copy-copy.ensures
    c.acquire.new.self c.in_ok-acquire.ensures.part (sym c.in-Refused.is ∙ c.in_ok-acquire.ensures.answer))

pub returns-in-Refused-clause-keeps : goal.returns-in-Refused-clause-keeps
returns-in-Refused-clause-keeps c = acquire_keeps c.args.stamp c.args.self.now (answer.Refused refusal.Empty) c.args.name c.in-Some.part.now c.args.mode c.has_copy-copy.result c.requires c.in-Some.ensures.some c.has_copy-copy.ensures
    c.acquire.new.self c.args.self.now.mail c.in_ok-acquire.ensures.part

pub returns-in-Refused-clause-frame : goal.returns-in-Refused-clause-frame
returns-in-Refused-clause-frame c = frame_tokens c.args.self.now c.acquire.new.self c.args.self.now.mail

pub returns-in-Asks-clause-does : goal.returns-in-Asks-clause-does
returns-in-Asks-clause-does c =
    let h = c.args.self.now in
    let asked : Msg = request_msg c.args.name h.me c.args.mode in
    let opened = c.in_ok-outbox.ensures.outbox in
    does_done c.args.stamp h _ _ (record { answer = answer.Wait; letters = next_letter h.mail c.args.stamp c.in-Asks.parent asked ∷ [] }) c.answer.result
    (c.answer.ensures ∙ ap (λ (l : List Sending). record { answer = answer.Wait; letters = l })
    (sent_one h.mail c.post.new.self c.args.stamp c.in-Asks.parent c.if-asks.most c.request-msg.result c.in_ok-outbox.outbox c.post.new.outbox opened c.post.ensures.outbox
    ∙ ap (λ (m : Msg). next_letter h.mail c.args.stamp c.in-Asks.parent m ∷ []) c.request-msg.ensures))
    (acquire_does c.args.stamp c.args.self.now (answer.Refused refusal.Empty) c.args.name c.in-Some.part.now c.args.mode c.has_copy-copy.result c.requires c.in-Some.ensures.some c.has_copy-copy.ensures
    c.acquire.new.self c.post.new.self (acquire_is.Asks c.in-Asks.parent) (send c.in-Asks.parent (Asks c.args.mode h.me) ∷ []) (next_letter h.mail c.args.stamp c.in-Asks.parent asked ∷ [])
    c.in_ok-acquire.ensures.part (sym c.in-Asks.is ∙ c.in_ok-acquire.ensures.answer) (λ x q. refl)
    (ap (λ (m : Msg). next_letter h.mail c.args.stamp c.in-Asks.parent m ∷ []) (request_is (state_of h) (lies_at h) c.args.name h.me (told_fields (state_of h) (lies_at h) c.args.name) c.args.mode))
    (λ s. subst (λ (m : Msg). after_changes (with_mail s h.mail) (flat_map sent_changes (next_letter h.mail c.args.stamp c.in-Asks.parent m ∷ [])) ≡ with_mail s c.post.new.self) c.request-msg.ensures
    (tracked_sent h.mail c.post.new.self c.args.stamp c.in-Asks.parent c.if-asks.most c.request-msg.result c.in_ok-outbox.outbox c.post.new.outbox opened c.post.ensures.change s
    (subst (TellsBunches s) (sym c.request-msg.ensures) (request_tells s c.args.name h.me c.args.mode)))))

pub returns-in-Asks-clause-keeps : goal.returns-in-Asks-clause-keeps
returns-in-Asks-clause-keeps c = acquire_keeps c.args.stamp c.args.self.now (answer.Refused refusal.Empty) c.args.name c.in-Some.part.now c.args.mode c.has_copy-copy.result c.requires c.in-Some.ensures.some c.has_copy-copy.ensures
    c.acquire.new.self c.post.new.self c.in_ok-acquire.ensures.part

pub returns-in-Asks-clause-frame : goal.returns-in-Asks-clause-frame
returns-in-Asks-clause-frame c = frame_tokens c.args.self.now c.acquire.new.self c.post.new.self
