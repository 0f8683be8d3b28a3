use Rattle.std.proofs.Common.{◌≡◌, ℕ, ◌+◌, ◌++◌, List, [], sym, ap, ◌∙◌, drop}
use Rattle.std.specs.List.{flat_map}
use Rattle.std.proofs.lemmas.List.{append-nil, drop_all}
use Rattle.bmx_script.specs.declared.lines.Line.{Line}
use Rattle.bmx_protocol.specs.declared.events.Event.{Event}
use Rattle.bmx_protocol.specs.Runs.Programs.{completion, counts_after, outputs}
use Rattle.bmx_world.specs.Scripts.{body_of}
use Rattle.bmx_world.specs.Texts.{output_line, text_of}
use Rattle.bmx_world.proofs.Placed.{at_place, one_more}
use Rattle.bmx_world.proofs.texts.text.Goals as goal

pub loop-event-init : goal.loop-event-init
loop-event-init c = (
  λ _. 0,
  c.new-places.ensures c.as_slice-lines.result.now,
  ap (λ (t : List ℕ). t ++ flat_map output_line (outputs (body_of c.as_slice-lines.result.now) (λ _. 0) c.as_slice-events.result.now)) c.new-text.ensures,
)

pub loop-event-preserved : goal.loop-event-preserved
loop-event-preserved c =
    let lines : List Line = c.as_slice-lines.result.now in
    let events : List Event = c.as_slice-events.result.now in
    let i : ℕ = c.loop-event.event-index in
    let e : Event = c.event-item.result in
    let counts = c.loop-event.invariant.0 in
    let prints = c.in_ok-print_event.ensures counts c.loop-event.invariant.1 in (
      counts_after counts e.node (completion e.input e.done.answer),
      prints.at,
      one_more lines counts e (drop (i + 1) events) events i c.loop-event.text c.print_event.new.text c.print_event.new.places.of_node
          (at_place events i e c.loop-event-test.true c.event-item.is) c.loop-event.invariant.2 prints,
    )

pub returns : goal.returns
returns c =
    let lines : List Line = c.as_slice-lines.result.now in
    let events : List Event = c.as_slice-events.result.now in
    let text : List ℕ = c.loop-event.text in
    let all : drop c.loop-event.event-index events ≡ [] = drop_all c.loop-event.event-index events c.loop-event-test.false in
    sym (append-nil text)
    ∙ ap (λ (es : List Event). text ++ flat_map output_line (outputs (body_of lines) c.loop-event.invariant.0 es)) (sym all)
    ∙ c.loop-event.invariant.2
    ∙ ap (λ (ls : List Line). text_of ls events) (c.as_slice-lines.ensures ∙ c.lines.ensures.lines)
    ∙ ap (text_of c.args.script.now) c.as_slice-events.ensures
