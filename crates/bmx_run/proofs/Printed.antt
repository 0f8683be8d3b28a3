-- What an event adds to the text of a run.
use Rattle.std.proofs.Common.{◌≡◌, ℕ, ◌<◌, refl, ap, sym, ◌∙◌, Bool, true, false, cond, List, [], ◌∷◌, ◌++◌, length, Option, Some, None}
use Rattle.std.specs.Prelude.{slice_get}
use Rattle.std.specs.List.{flat_map}
use Rattle.std.specs.Option.{option_and_then}
use Rattle.std.proofs.lemmas.List.{append-nil}
use Rattle.std.proofs.lemmas.List.Concat.{flat_map-append}
use Rattle.std.proofs.lemmas.Option.{slice_get_within}
use Rattle.bmx_types.specs.declared.commands.Command.{Command}
use Rattle.bmx_script.specs.declared.lines.Line.{Line}
use Rattle.bmx_script.specs.declared.printing.Shown.{Shown}
use Rattle.bmx_protocol.specs.declared.inputs.Input.TheVariants as input
use Rattle.bmx_protocol.specs.declared.inputs.NodeAnswer.{NodeAnswer}
use Rattle.bmx_protocol.specs.declared.inputs.NodeAnswer.TheVariants as answer
use Rattle.bmx_protocol.specs.declared.inputs.Done.{Done}
use Rattle.bmx_protocol.specs.declared.events.Event.{Event}
use Rattle.bmx_protocol.specs.Steps.{command_in}
use Rattle.bmx_protocol.specs.Histories.{is_wait}
use Rattle.bmx_protocol.specs.Runs.Programs.{Body, Order, Output, program, program_in, completed, completion, is_printed, output_of, text}
use Rattle.bmx_turns.proofs.Printing.{text_completed, text_not}
use Rattle.bmx_turns.proofs.Walks.{next_is}
use Rattle.bmx_world.specs.Scripts.{body_of}
use Rattle.bmx_world.specs.Texts.{shown_of, printed_of, line_if, output_line, text_of}
use Rattle.bmx_run.specs.Inside.Running.{Point, store_of, history_of, IsInPhase}
use Rattle.bmx_run.specs.Inside.Picking.{IsNextOrder}

abbrev lines_of : List Output → List ℕ
lines_of l = flat_map output_line l

-- an event with no command prints nothing
pub text_silent : (lines : List Line) (history : List Event) (e : Event) → command_in e.input ≡ None → text_of lines (history ++ e ∷ []) ≡ text_of lines history
text_silent lines history e none = ap lines_of (text_not (body_of lines) history e nothing)
  where
    nothing : completion e.input e.done.answer ≡ None
    nothing = ap (λ (o : Option Command). option_and_then (λ (c : Command). cond (is_wait e.done.answer) None (Some c)) o) none

-- nor does a command that waits
pub printed_wait : (c : Command) (a : NodeAnswer) → is_wait a ≡ true → printed_of c a ≡ None
printed_wait c answer.Wait h = refl
printed_wait c answer.Nil h = absurd cc
printed_wait c (answer.Value v) h = absurd cc
printed_wait c answer.Yes h = absurd cc
printed_wait c answer.No h = absurd cc
printed_wait c (answer.Refused why) h = absurd cc
printed_wait c answer.Idle h = absurd cc
printed_wait c answer.Stray h = absurd cc

-- the line of a command that is completed
line_of : (n : ℕ) (g : Order) (c : Command) (a : NodeAnswer) → lines_of (output_of (Some g) n c a) ≡ line_if n g.line (printed_of c a)
line_of n g c a = by_test (is_printed c a)
  where
    out : Output
    out = record { node = n; line = g.line; answer = a }

    by_test : (b : Bool) → lines_of (cond b (out ∷ []) []) ≡ line_if n g.line (cond b (shown_of a) None)
    by_test true = append-nil (line_if n g.line (shown_of a))
    by_test false = refl

-- what a command that is tried prints
pub text_tried : (p : Point) (g : Order) (stamp : ℕ) (done : Done) → IsInPhase p → g.node < (store_of p).nodes → IsNextOrder p g →
    text_of p.lines (history_of p ++ record { node = g.node; stamp = stamp; input = input.Do g.command; done = done } ∷ [])
    ≡ text_of p.lines (history_of p) ++ line_if g.node g.line (printed_of g.command done.answer)
text_tried p g stamp done phase lt is = by_wait (is_wait done.answer) refl
  where
    e : Event
    e = record { node = g.node; stamp = stamp; input = input.Do g.command; done = done }

    body : List Body
    body = body_of p.lines

    before : List ℕ
    before = text_of p.lines (history_of p)

    next : slice_get (program body g.node) (length (completed g.node (history_of p))) ≡ Some g
    next =
        next_is (store_of p) body phase.comes.before p.stage p.rest p.past p.part g.node phase.comes.cut phase.comes.done lt
        (slice_get_within (program_in p.stage g.node) (length (completed g.node p.part)) g is)
        ∙ is

    by_wait : (b : Bool) → is_wait done.answer ≡ b → text_of p.lines (history_of p ++ e ∷ []) ≡ before ++ line_if g.node g.line (printed_of g.command done.answer)
    by_wait true h =
        ap lines_of (text_not body (history_of p) e (ap (λ (b : Bool). cond b None (Some g.command)) h))
        ∙ sym (append-nil before)
        ∙ ap (λ (s : Option Shown). before ++ line_if g.node g.line s) (sym (printed_wait g.command done.answer h))
    by_wait false h =
        ap lines_of (text_completed body (history_of p) e g.command (ap (λ (b : Bool). cond b None (Some g.command)) h))
        ∙ flat_map-append output_line (text body (history_of p)) (output_of (slice_get (program body g.node) (length (completed g.node (history_of p)))) g.node g.command done.answer)
        ∙ ap (λ (o : Option Order). before ++ lines_of (output_of o g.node g.command done.answer)) next
        ∙ ap (λ (l : List ℕ). before ++ l) (line_of g.node g g.command done.answer)
