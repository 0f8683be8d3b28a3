-- The text of a history, event by event.
use Rattle.std.proofs.Common.{◌≡◌, ℕ, refl, ap, ◌∙◌, Bool, true, false, cond, List, [], ◌∷◌, ◌++◌, length}
use Rattle.std.specs.Prelude.{Option, Some, None, slice_get}
use Rattle.std.specs.List.{flat_map}
use Rattle.std.proofs.lemmas.List.{append-nil}
use Rattle.std.proofs.lemmas.List.Concat.{flat_map-append}
use Rattle.bmx_types.specs.declared.commands.Command.{Command}
use Rattle.bmx_script.specs.declared.lines.Line.{Line}
use Rattle.bmx_protocol.specs.declared.inputs.NodeAnswer.{NodeAnswer}
use Rattle.bmx_protocol.specs.declared.events.Event.{Event}
use Rattle.bmx_protocol.specs.Runs.Programs.{Order, program, completion, completed, is_printed, output_of, text}
use Rattle.bmx_turns.proofs.Printing.{text_completed, text_not}
use Rattle.bmx_world.specs.Scripts.{body_of}
use Rattle.bmx_world.specs.Texts.{shown_of, printed_of, line_if, output_line, text_of}

-- what is printed of a completed command is its line, or nothing
pub printed_line : (g : Order) (n : ℕ) (c : Command) (a : NodeAnswer) → flat_map output_line (output_of (Some g) n c a) ≡ line_if n g.line (printed_of c a)
printed_line g n c a = by_test (is_printed c a)
  where
    by_test : (b : Bool) → flat_map output_line (cond b (record { node = n; line = g.line; answer = a } ∷ []) []) ≡ line_if n g.line (cond b (shown_of a) None)
    by_test true = append-nil (line_if n g.line (shown_of a))
    by_test false = refl

-- an event that completes a command adds its line to the text, or nothing
pub text_next : (lines : List Line) (past : List Event) (e : Event) (c : Command) (g : Order) → completion e.input e.done.answer ≡ Some c →
    slice_get (program (body_of lines) e.node) (length (completed e.node past)) ≡ Some g →
    text_of lines (past ++ e ∷ []) ≡ text_of lines past ++ line_if e.node g.line (printed_of c e.done.answer)
text_next lines past e c g completes next =
    ap (flat_map output_line) (text_completed (body_of lines) past e c completes)
    ∙ flat_map-append output_line (text (body_of lines) past) (output_of (slice_get (program (body_of lines) e.node) (length (completed e.node past))) e.node c e.done.answer)
    ∙ ap (λ (o : Option Order). text_of lines past ++ flat_map output_line (output_of o e.node c e.done.answer)) next
    ∙ ap (λ (t : List ℕ). text_of lines past ++ t) (printed_line g e.node c e.done.answer)

-- another adds nothing
pub text_same : (lines : List Line) (past : List Event) (e : Event) → completion e.input e.done.answer ≡ None → text_of lines (past ++ e ∷ []) ≡ text_of lines past
text_same lines past e none = ap (flat_map output_line) (text_not (body_of lines) past e none)
