use Rattle.std.proofs.Common.{◌≡◌, ℕ, ◌++◌, drop}
use Rattle.std.specs.List.{flat_map}
use Rattle.bmx_protocol.specs.Runs.Programs.{outputs}
use Rattle.bmx_world.specs.Scripts.{body_of}
use Rattle.bmx_world.specs.Texts.{output_line, text_of}
use Rattle.bmx_world.specs.Inside.Printing.{AreAt}
use Rattle.bmx_world.proofs.texts.text.Given as goal

-- what is still to be printed completes the text
abbrev pub invariant-loop-event : goal.invariant-loop-event
invariant-loop-event l =
    (counts : ℕ → ℕ) × AreAt l.lines counts l.places.of_node
    × (l.text ++ flat_map output_line (outputs (body_of l.lines) counts (drop l.event-index l.events)) ≡ text_of l.lines l.events)
