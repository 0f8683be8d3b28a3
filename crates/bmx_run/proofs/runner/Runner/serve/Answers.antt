use Rattle.std.proofs.Common.{ap}
use Rattle.std.specs.Prelude.{string_bytes}
use Rattle.bmx_lanes.proofs.Sending.{OnOk-map}
use Rattle.bmx_tokens.proofs.Map.{OnErr-from}
use Rattle.bmx_protocol.specs.declared.inputs.Input.TheVariants as input
use Rattle.bmx_run.specs.Inside.Running.{store_of}
use Rattle.bmx_run.proofs.Turned.{halted_before}
use Rattle.bmx_run.proofs.Trying.{can_serve_step, some_events}
use Rattle.bmx_run.proofs.Going.{serve_turned, serve_halted}
use Rattle.bmx_run.proofs.runner.Runner.serve.Goals as goal

pub event-requires : goal.event-requires
event-requires c = (let q = c.requires in can_serve_step q.0 c.args.self.now c.args.node c.args.name q.1)

pub post-requires : goal.post-requires
post-requires c = (let q = c.requires in some_events (store_of q.0) c.args.self.now c.args.node (input.Serve c.args.name) c.event.new.self (c.in_ok-event.ensures.ok (store_of q.0) q.1.is_at.whole.nodes))

pub returns-in_err-event-clause-err : goal.returns-in_err-event-clause-err
returns-in_err-event-clause-err c p t =
    OnErr-from c.from_residual.result
    (halted_before p c.args.self.now c.event.new.self t.is_at (c.in_err-event.ensures.err (store_of p) t.is_at.whole.nodes) c.event.ensures.rest.budget (ap string_bytes c.event.ensures.rest.text))

pub returns-clause-ok : goal.returns-clause-ok
returns-clause-ok c p t =
    OnOk-map c.post.result
    (λ posts. serve_turned p c.args.self.now c.event.new.self c.post.new.self c.args.node c.args.name t (c.in_ok-event.ensures.ok (store_of p) t.is_at.whole.nodes) c.event.ensures.rest posts c.post.ensures.rest)
    c.post.ensures.ok

pub returns-clause-err : goal.returns-clause-err
returns-clause-err c p t =
    OnErr-from c.post.result
    (serve_halted p c.args.self.now c.event.new.self c.post.new.self c.args.node c.args.name t (c.in_ok-event.ensures.ok (store_of p) t.is_at.whole.nodes) c.event.ensures.rest c.post.ensures.rest)
