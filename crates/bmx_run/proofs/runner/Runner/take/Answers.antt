use Rattle.std.proofs.Common.{ap, sym, ◌∙◌}
use Rattle.std.specs.Prelude.{string_bytes}
use Rattle.bmx_lanes.proofs.Sending.{OnOk-map}
use Rattle.bmx_tokens.proofs.Map.{OnErr-from}
use Rattle.bmx_protocol.specs.declared.inputs.Input.TheVariants as input
use Rattle.bmx_run.specs.Inside.Running.{store_of}
use Rattle.bmx_run.proofs.Turned.{halted_before}
use Rattle.bmx_run.proofs.Trying.{can_take_step, some_events}
use Rattle.bmx_run.proofs.Going.{taken_of, take_some, take_stands, take_turned, take_halted, lanes_only}
use Rattle.bmx_run.proofs.runner.Runner.take.Goals as goal

pub unreachable-requires : goal.unreachable-requires
unreachable-requires c = (let q = c.requires in take_some q.0 c.args.self.now c.args.node c.args.from q.1 (sym c.first.ensures ∙ c.in_default.is))

pub letter_at-requires : goal.letter_at-requires
letter_at-requires c =
    let q = c.requires in (
      (taken_of q.0 c.args.self.now c.args.node c.args.from q.1).letter,
      take_stands q.0 c.args.self.now c.args.node c.args.from q.1 c.in-Some.position (sym c.first.ensures ∙ c.in-Some.is),
    )

pub event-requires : goal.event-requires
event-requires c = (let q = c.requires in can_take_step q.0 c.args.self.now c.args.node c.args.from c.in_ok-letter.letter q.1)

pub returns-in_err-event-clause-err : goal.returns-in_err-event-clause-err
returns-in_err-event-clause-err c p t =
    OnErr-from c.from_residual-in_err-event.result
    (halted_before p c.args.self.now c.event.new.self t.is_at (c.in_err-event.ensures.err (store_of p) t.is_at.whole.nodes) c.event.ensures.rest.budget (ap string_bytes c.event.ensures.rest.text))

pub post-requires : goal.post-requires
post-requires c =
    let q = c.requires in
    some_events (store_of q.0) c.args.self.now c.args.node (input.Take c.args.from c.in_ok-letter.letter) c.event.new.self (c.in_ok-event.ensures.ok (store_of q.0) q.1.is_at.whole.nodes)

pub returns-clause-ok : goal.returns-clause-ok
returns-clause-ok c p t =
    let r = c.args.self.now in
    let mid = c.event.new.self in
    let letter = taken_of p r c.args.node c.args.from t in
    OnOk-map c.post.result
    (λ posts. take_turned p r mid (record mid { lanes = c.pop-taken.new.self }) c.post.new.self c.args.node c.args.from c.in_ok-letter.letter t
    (c.in_ok-letter.ensures ∙ c.letter_at.ensures letter.letter (take_stands p r c.args.node c.args.from t c.in-Some.position (sym c.first.ensures ∙ c.in-Some.is)))
    (c.in_ok-event.ensures.ok (store_of p) t.is_at.whole.nodes) c.event.ensures.rest (lanes_only mid c.pop-taken.new.self) c.post.ensures.rest c.pop-taken.ensures.rest posts)
    c.post.ensures.ok

pub returns-clause-err : goal.returns-clause-err
returns-clause-err c p t =
    let r = c.args.self.now in
    let mid = c.event.new.self in
    let letter = taken_of p r c.args.node c.args.from t in
    OnErr-from c.post.result
    (take_halted p r mid (record mid { lanes = c.pop-taken.new.self }) c.post.new.self c.args.node c.args.from c.in_ok-letter.letter t
    (c.in_ok-letter.ensures ∙ c.letter_at.ensures letter.letter (take_stands p r c.args.node c.args.from t c.in-Some.position (sym c.first.ensures ∙ c.in-Some.is)))
    (c.in_ok-event.ensures.ok (store_of p) t.is_at.whole.nodes) c.event.ensures.rest (lanes_only mid c.pop-taken.new.self) c.post.ensures.rest)
