-- Printing a history one event after another, with the place of each node in its program.
use Rattle.std.specs.Prelude.{◌≡◌, ℕ, ◌+◌, ◌<◌, ◌==◌, Bool, false, List, [], ◌∷◌, ◌++◌, drop, length, slice_get, Option, Some, None}
use Rattle.std.specs.List.{flat_map}
use Rattle.std.specs.Option.{option_map}
use Rattle.bmx_types.specs.Updates.{put}
use Rattle.bmx_script.specs.declared.lines.Line.{Line}
use Rattle.bmx_script.specs.declared.lines.LineKind.{LineKind}
use Rattle.bmx_script.specs.declared.lines.LineKind.TheVariants as line
use Rattle.bmx_protocol.specs.declared.events.Event.{Event}
use Rattle.bmx_protocol.specs.Runs.Programs.{Order, program, completion, output_at, counts_after}
use Rattle.bmx_world.specs.Scripts.{body_of}
use Rattle.bmx_world.specs.Texts.{output_line}

-- a line gives a command to a node
abbrev pub is_order_to : ℕ → LineKind → Bool
is_order_to node (line.Do n c) = n == node
is_order_to node what = false

-- a node's program in lines
abbrev pub program_of : List Line → ℕ → List Order
program_of lines node = program (body_of lines) node

-- where a node's next command stands behind a place: no command of its stands between
abbrev pub IsNextAt : List Line → ℕ → ℕ → Option ℕ → Type 0
IsNextAt lines node from None = program_of (drop from lines) node ≡ []
IsNextAt lines node from (Some at) =
    (at < length lines) × (g : Order) × (option_map (λ (l : Line). l.number) (slice_get lines at) ≡ Some g.line)
    × (program_of (drop from lines) node ≡ g ∷ program_of (drop (at + 1) lines) node)

-- nodes are at these places: each has completed so many commands of its program, and the rest of it stands behind its place
pub record AreAt (lines : List Line) (counts : ℕ → ℕ) (places : List ℕ) : Type 0 where
  pub each : length places ≡ 8
  pub stand : (node place : ℕ) → slice_get places node ≡ Some place → program_of (drop place lines) node ≡ drop (counts node) (program_of lines node)

-- a node went on to its next command, whose line is this
pub record GoesOn (lines : List Line) (counts : ℕ → ℕ) (node : ℕ) (number : Option ℕ) (places : List ℕ) : Type 0 where
  pub line : number ≡ option_map (λ (g : Order). g.line) (slice_get (program_of lines node) (counts node))
  pub at : AreAt lines (put counts node (counts node + 1)) places

-- an event was printed behind a text
pub record Prints (lines : List Line) (counts : ℕ → ℕ) (e : Event) (before behind places : List ℕ) : Type 0 where
  pub text : behind ≡ before ++ flat_map output_line (output_at (body_of lines) counts e (completion e.input e.done.answer))
  pub at : AreAt lines (counts_after counts e.node (completion e.input e.done.answer)) places
