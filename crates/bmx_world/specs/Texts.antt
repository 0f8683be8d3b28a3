-- What a run prints: a line for each field shown, each identity test and each refused command.
use Rattle.std.specs.Prelude.{◌≡◌, ℕ, pos, Bool, true, false, if◌then◌else◌, List, [], ◌∷◌, ◌++◌, codes, Option, Some, None, refl}
use Rattle.std.specs.List.{flat_map, list_any}
use Rattle.std.specs.Option.{option_map_or}
use Rattle.bmx_types.specs.declared.values.Val.TheVariants as val
use Rattle.bmx_types.specs.declared.commands.Command.{Command}
use Rattle.bmx_types.specs.declared.commands.Command.TheVariants as command
use Rattle.bmx_types.specs.declared.commands.Operand.TheVariants as operand
use Rattle.bmx_types.specs.declared.commands.Refusal.TheVariants as refusal
use Rattle.bmx_script.specs.declared.lines.Line.{Line}
use Rattle.bmx_script.specs.declared.printing.Shown.{Shown}
use Rattle.bmx_script.specs.declared.printing.Shown.TheVariants as shown
use Rattle.bmx_script.specs.Printing.{line_text}
use Rattle.bmx_protocol.specs.declared.inputs.NodeAnswer.{NodeAnswer}
use Rattle.bmx_protocol.specs.declared.inputs.NodeAnswer.TheVariants as answer
use Rattle.bmx_protocol.specs.declared.events.Event.{Event}
use Rattle.bmx_protocol.specs.Runs.Programs.{Output, is_printed, text}
use Rattle.bmx_world.specs.Scripts.{body_of}

-- an answer as it is printed
abbrev pub shown_of : NodeAnswer → Option Shown
shown_of (answer.Value v) = Some (shown.Value v)
shown_of answer.Yes = Some shown.Yes
shown_of answer.No = Some shown.No
shown_of (answer.Refused why) = Some (shown.Refused why)
shown_of a = None

-- what is printed of a command with its answer
abbrev pub printed_of : Command → NodeAnswer → Option Shown
printed_of c a = if is_printed c a then shown_of a else None

-- the line of an answer that is printed, and nothing of another
abbrev pub line_if : ℕ → ℕ → Option Shown → List ℕ
line_if node line s = option_map_or (line_text node line) s []

-- a line of output, as bytes
abbrev pub output_line : Output → List ℕ
output_line o = line_if o.node o.line (shown_of o.answer)

-- the text of a history of a script
abbrev pub text_of : List Line → List Event → List ℕ
text_of lines history = flat_map output_line (text (body_of lines) history)

-- ## refusals

abbrev pub is_refusal : NodeAnswer → Bool
is_refusal (answer.Refused why) = true
is_refusal a = false

-- a command of a history was refused: no other input is answered so
abbrev pub has_refusal : List Event → Bool
has_refusal history = list_any (λ e. is_refusal e.done.answer) history

-- ## small cases

a_shown_number : output_line (record { node = 1; line = 16; answer = answer.Value (val.Int (pos 42)) }) ≡ codes "1 16 42" ++ 10 ∷ []
a_shown_number = refl

a_get_prints_nothing : printed_of (command.Get 0 (operand.Register 1) 0) (answer.Value val.Null) ≡ None
a_get_prints_nothing = refl

a_wait_prints_nothing : printed_of (command.Show (operand.Register 1) 0) answer.Wait ≡ None
a_wait_prints_nothing = refl

a_refused_get_prints : printed_of (command.Get 0 (operand.Register 1) 0) (answer.Refused refusal.Index) ≡ Some (shown.Refused refusal.Index)
a_refused_get_prints = refl
