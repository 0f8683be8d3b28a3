use Rattle.std.proofs.Common.{ℕ, ap, sym, ◌∙◌, refl, subst}
use Rattle.std.specs.Prelude.{string_bytes}
use Rattle.bmx_lanes.proofs.Sending.{OnOk-map}
use Rattle.bmx_tokens.proofs.Map.{OnErr-from}
use Rattle.bmx_protocol.specs.Runs.Programs.{Order}
use Rattle.bmx_run.specs.declared.actions.Action.TheVariants as choice
use Rattle.bmx_run.specs.declared.runner.Runner.{Runner}
use Rattle.bmx_run.specs.Inside.Noting.{CanNote, Notes}
use Rattle.bmx_run.specs.Inside.Posting.{Posts}
use Rattle.bmx_run.specs.Inside.Running.{store_of}
use Rattle.bmx_run.proofs.Turned.{halted_before, run_same}
use Rattle.bmx_run.proofs.Trying.{can_try_step}
use Rattle.bmx_run.proofs.Going.{try_turned, try_halted, can_note, with_room, as_order, as_next}
use Rattle.bmx_run.proofs.runner.Runner.try_command.Goals as goal

pub returns-in_err-reserve-clause-err : goal.returns-in_err-reserve-clause-err
returns-in_err-reserve-clause-err c p t is =
    let r = c.args.self.now in
    let roomy : Runner = record r { text = c.reserve.new.self } in
    OnErr-from c.from_residual.result (halted_before p r roomy t.is_at (run_same (store_of p) r roomy t.is_at.whole.nodes refl refl) refl c.reserve.ensures.bytes)

pub event-requires : goal.event-requires
event-requires c =
    let r = c.args.self.now in
    let q = c.requires in
    let g : Order = record { node = c.order.inside.node; line = c.order.inside.line; command = c.order.inside.command } in
    let roomy : Runner = record r { text = c.reserve.new.self } in
    let t = with_room q.0 r (choice.Try g) c.reserve.new.self c.reserve.ensures.bytes (as_order q.0 r g c.args.order c.order.view_is q.1) in
    can_try_step q.0 roomy g t (as_next q.0 g c.args.order c.order.view_is q.2)

pub returns-in_err-event-clause-err : goal.returns-in_err-event-clause-err
returns-in_err-event-clause-err c p t is =
    let r = c.args.self.now in
    let roomy : Runner = record r { text = c.reserve.new.self } in
    let u = with_room p r (choice.Try c.args.order) c.reserve.new.self c.reserve.ensures.bytes t in
    OnErr-from c.from_residual-in_err-event.result
    (halted_before p roomy c.event.new.self u.is_at (c.in_err-event.ensures.err (store_of p) t.is_at.whole.nodes) c.event.ensures.rest.budget (ap string_bytes c.event.ensures.rest.text))

pub note-requires : goal.note-requires
note-requires c =
    let r = c.args.self.now in
    let q = c.requires in
    let g : Order = record { node = c.order.inside.node; line = c.order.inside.line; command = c.order.inside.command } in
    let roomy : Runner = record r { text = c.reserve.new.self } in
    let t = with_room q.0 r (choice.Try g) c.reserve.new.self c.reserve.ensures.bytes (as_order q.0 r g c.args.order c.order.view_is q.1) in
    subst (λ (h : Order). CanNote c.event.new.self h) c.order.view_is
    (can_note q.0 roomy c.event.new.self g t.is_at (as_next q.0 g c.args.order c.order.view_is q.2) (c.in_ok-event.ensures.ok (store_of q.0) t.is_at.whole.nodes) c.event.ensures.rest c.in_ok-reserve.ensures.ok)

pub returns-clause-ok : goal.returns-clause-ok
returns-clause-ok c p t is =
    let r = c.args.self.now in
    let g : Order = record { node = c.order.inside.node; line = c.order.inside.line; command = c.order.inside.command } in
    let roomy : Runner = record r { text = c.reserve.new.self } in
    let u = with_room p r (choice.Try g) c.reserve.new.self c.reserve.ensures.bytes (as_order p r g c.args.order c.order.view_is t) in
    OnOk-map c.post.result
    (λ posts. try_turned p roomy c.event.new.self c.note.new.self c.post.new.self g u (as_next p g c.args.order c.order.view_is is)
    (c.in_ok-event.ensures.ok (store_of p) t.is_at.whole.nodes) c.event.ensures.rest
    (subst (λ (h : Order). Notes c.event.new.self h c.note.new.self) (sym c.order.view_is) c.note.ensures) c.post.ensures.rest
    (subst (λ (n : ℕ). Posts c.note.new.self n c.post.new.self) (ap (λ (h : Order). h.node) (c.order-2.view_is ∙ sym c.order.view_is)) posts))
    c.post.ensures.ok

pub returns-clause-err : goal.returns-clause-err
returns-clause-err c p t is =
    let r = c.args.self.now in
    let g : Order = record { node = c.order.inside.node; line = c.order.inside.line; command = c.order.inside.command } in
    let roomy : Runner = record r { text = c.reserve.new.self } in
    let u = with_room p r (choice.Try g) c.reserve.new.self c.reserve.ensures.bytes (as_order p r g c.args.order c.order.view_is t) in
    OnErr-from c.post.result
    (try_halted p roomy c.event.new.self c.note.new.self c.post.new.self g u (as_next p g c.args.order c.order.view_is is)
    (c.in_ok-event.ensures.ok (store_of p) t.is_at.whole.nodes) c.event.ensures.rest
    (subst (λ (h : Order). Notes c.event.new.self h c.note.new.self) (sym c.order.view_is) c.note.ensures) c.post.ensures.rest)
