use Rattle.std.proofs.Common.{rules, ◌≡◌, ℕ, List, [], ◌∷◌, Some, None, IsSome, refl, sym, ◌∙◌, ap, subst}
use Rattle.std.specs.List.{flat_map}
use Rattle.bmx_msg.specs.declared.letters.Msg.{Msg}
use Rattle.bmx_token.specs.Transitions.{Asks}
use Rattle.bmx_tokens.specs.Tables.{part_of}
use Rattle.bmx_protocol.specs.declared.inputs.NodeAnswer.TheVariants as answer
use Rattle.bmx_protocol.specs.declared.inputs.Sending.{Sending}
use Rattle.bmx_protocol.specs.Changes.{Takes, after_changes}
use Rattle.bmx_protocol.specs.Rules.{told_fields}
use Rattle.bmx_protocol.specs.Steps.{sent_changes}
use Rattle.bmx_mail.specs.Mails.{OutboxState, Tracks, TellsBunches, with_mail, next_letter}
use Rattle.bmx_node.specs.declared.holdings.Holdings.{Holdings}
use Rattle.bmx_node.specs.Seen.{state_of}
use Rattle.bmx_node.specs.Inside.Keeping.{Keeps, Frame}
use Rattle.bmx_node.specs.Inside.Reacting.{lies_at, request_msg}
use Rattle.bmx_node.proofs.Operating.{frame_tokens, request_is, request_tells, request_gives, sent_one, tracked_sent}
use Rattle.bmx_node.proofs.Notes.{takes_unknown, request_name, request_note, request_keeps, request_queued, request_passed, request_stray, counted_after, took_so}
use Rattle.bmx_node.proofs.holdings.Holdings.asked.Goals.{in-Queued, in-Forward}
use Rattle.bmx_node.proofs.holdings.Holdings.asked.Goals as goal

pub returns-in_default-clause-takes : goal.returns-in_default-clause-takes
returns-in_default-clause-takes c =
    let h = c.args.self.now in
    let name = c.args.name in
    let none : part_of h.tokens name ≡ None = rw c.in_default.is at c.get.ensures.none in
    rw c.tell.ensures (takes_unknown c.args.taking.stamp h c.args.taking.from c.args.taking.seq (request_msg name c.args.asker c.args.mode) name (Asks c.args.mode c.args.asker) c.requires.keeps
    (request_name name c.args.asker c.args.mode) (request_note name c.args.asker c.args.mode) none refl)

pub returns-in-Stray-clause-takes : goal.returns-in-Stray-clause-takes
returns-in-Stray-clause-takes c =
    let h = c.args.self.now in
    let name = c.args.name in
    let there : IsSome (part_of h.tokens name) = search rules in
    rw c.tell-in-Stray.ensures (request_stray c.args.taking.stamp h c.args.taking.from c.args.taking.seq name c.requires.keeps there c.request.new.self c.args.asker c.args.mode c.in_ok-request.ensures.part (sym c.in_ok-request.ensures.answer ∙ c.in-Stray.is))

pub returns-in-Stray-clause-keeps : goal.returns-in-Stray-clause-keeps
returns-in-Stray-clause-keeps c =
    let h = c.args.self.now in
    let there : IsSome (part_of h.tokens c.args.name) = search rules in
    request_keeps c.args.taking.stamp h c.args.taking.from c.args.taking.seq c.args.name c.requires.keeps there c.request.new.self h.mail c.args.asker c.args.mode c.in_ok-request.ensures.part

pub returns-in-Stray-clause-frame : goal.returns-in-Stray-clause-frame
returns-in-Stray-clause-frame c = frame_tokens c.args.self.now c.request.new.self c.args.self.now.mail

pub returns-clause-takes : goal.returns-clause-takes
returns-clause-takes c =
    let h = c.args.self.now in
    let name = c.args.name in
    let stamp = c.args.taking.stamp in
    let from = c.args.taking.from in
    let cnt = c.count_taken.new.self in
    let opened = c.in_ok-outbox.ensures.outbox in
    let there : IsSome (part_of h.tokens name) = search rules in
    let asked : Msg = request_msg name c.args.asker c.args.mode in
    elim c.match-branch-3.branch [
      | in-Queued w ↦
          took_so stamp h (record h { tokens = c.request.new.self; mail = cnt }) (record c.match-branch-3.self { mail = cnt }) from c.args.taking.seq asked (record { answer = answer.Nil; letters = [] }) c.answer.result
          (c.answer.ensures ∙ ap (λ (b : OutboxState). record { answer = answer.Nil; letters = b.letters }) (w.outbox-is ∙ opened))
          (ap (λ (x : Holdings). record x { mail = cnt }) w.self-is)
          (request_queued stamp h from c.args.taking.seq name c.requires.keeps there c.request.new.self cnt c.args.asker c.args.mode c.in_ok-request.ensures.part (sym c.in_ok-request.ensures.answer ∙ w.in-Queued.is)
          (subst (λ (x : Holdings). Tracks x.mail cnt (Takes from ∷ []) (λ _. Unit {0})) w.self-is c.count_taken.ensures.change))
      | in-Forward w ↦
          let parent = w.in-Forward.parent in
          let l : Sending = next_letter h.mail stamp parent asked in
          took_so stamp h (record h { tokens = c.request.new.self; mail = cnt }) (record c.match-branch-3.self { mail = cnt }) from c.args.taking.seq asked (record { answer = answer.Nil; letters = l ∷ [] }) c.answer.result
          (c.answer.ensures ∙ ap (λ (b : OutboxState). record { answer = answer.Nil; letters = b.letters }) w.outbox-is
          ∙ ap (λ (x : List Sending). record { answer = answer.Nil; letters = x })
          (sent_one h.mail w.post.new.self stamp parent c.letters_to_ask-most.result w.request-in-Forward.result c.in_ok-outbox.outbox w.post.new.outbox opened w.post.ensures.outbox
          ∙ ap (λ (m : Msg). next_letter h.mail stamp parent m ∷ []) w.request-in-Forward.ensures))
          (ap (λ (x : Holdings). record x { mail = cnt }) w.self-is)
          (request_passed stamp h from c.args.taking.seq name c.requires.keeps there c.request.new.self cnt c.args.asker c.args.mode parent c.in_ok-request.ensures.part (sym c.in_ok-request.ensures.answer ∙ w.in-Forward.is)
          (ap (λ (m : Msg). next_letter h.mail stamp parent m ∷ []) (request_is (state_of h) (lies_at h) name c.args.asker (told_fields (state_of h) (lies_at h) name) c.args.mode))
          (counted_after h.mail w.post.new.self cnt from l (request_gives name c.args.asker c.args.mode)
          (subst (λ (x : Holdings). Tracks x.mail cnt (Takes from ∷ []) (λ _. Unit {0})) w.self-is c.count_taken.ensures.change)
          (λ s. subst (λ (m : Msg). after_changes (with_mail s h.mail) (flat_map sent_changes (next_letter h.mail stamp parent m ∷ [])) ≡ with_mail s w.post.new.self) w.request-in-Forward.ensures
          (tracked_sent h.mail w.post.new.self stamp parent c.letters_to_ask-most.result w.request-in-Forward.result c.in_ok-outbox.outbox w.post.new.outbox opened w.post.ensures.change s
          (subst (TellsBunches s) (sym w.request-in-Forward.ensures) (request_tells s name c.args.asker c.args.mode))))))
    ]

pub returns-clause-keeps : goal.returns-clause-keeps
returns-clause-keeps c =
    let h = c.args.self.now in
    let cnt = c.count_taken.new.self in
    let there : IsSome (part_of h.tokens c.args.name) = search rules in
    let kept : Keeps (record h { tokens = c.request.new.self; mail = cnt }) =
    request_keeps c.args.taking.stamp h c.args.taking.from c.args.taking.seq c.args.name c.requires.keeps there c.request.new.self cnt c.args.asker c.args.mode c.in_ok-request.ensures.part in
    elim c.match-branch-3.branch [
      | in-Queued w ↦ subst (λ (x : Holdings). Keeps (record x { mail = cnt })) (sym w.self-is) kept
      | in-Forward w ↦ subst (λ (x : Holdings). Keeps (record x { mail = cnt })) (sym w.self-is) kept
    ]

pub returns-clause-frame : goal.returns-clause-frame
returns-clause-frame c =
    let h = c.args.self.now in
    let cnt = c.count_taken.new.self in
    elim c.match-branch-3.branch [
      | in-Queued w ↦ subst (λ (x : Holdings). Frame h (record x { mail = cnt })) (sym w.self-is) (frame_tokens h c.request.new.self cnt)
      | in-Forward w ↦ subst (λ (x : Holdings). Frame h (record x { mail = cnt })) (sym w.self-is) (frame_tokens h c.request.new.self cnt)
    ]
