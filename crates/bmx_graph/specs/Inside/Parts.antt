-- The parts of a command, as private functions do them.
use Rattle.std.specs.Prelude.{◌≡◌, ℕ, Bool, true, if◌then◌else◌, Option, Some, None, is_some, slice_get}
use Rattle.bmx_types.specs.declared.values.Val.{Val}
use Rattle.bmx_types.specs.declared.numbers.Mode.{Mode}
use Rattle.bmx_types.specs.declared.numbers.Mode.TheVariants as mode
use Rattle.bmx_types.specs.declared.commands.Operand.{Operand}
use Rattle.bmx_types.specs.declared.commands.Command.{Command}
use Rattle.bmx_types.specs.declared.commands.Command.TheVariants as command
use Rattle.bmx_types.specs.declared.commands.Refusal.{Refusal}
use Rattle.bmx_types.specs.declared.commands.Refusal.TheVariants as refusal
use Rattle.bmx_graph.specs.declared.answers.Answer.{Answer}
use Rattle.bmx_graph.specs.declared.decisions.Decision.{Decision}
use Rattle.bmx_graph.specs.State.{State, fields_of}
use Rattle.bmx_graph.specs.Step.{is_writer, other_holds, other_writes, answer_of, effect_after, state_after, IsPossible}

-- a hold gives the right to read, or to write
abbrev pub permits : Mode → Option Mode → Bool
permits mode.Read hold = is_some hold
permits mode.Write hold = is_writer hold

-- a node's hold keeps another from reading, or from writing
abbrev pub excludes : Mode → Option Mode → Bool
excludes mode.Read hold = is_writer hold
excludes mode.Write hold = is_some hold

-- a step of the graph with its answer, from a state to a state
pub record IsStep (s : State) (n : ℕ) (c : Command) (a : Answer) (t : State) : Type 0 where
  pub answered : a ≡ answer_of s n c
  pub changed : t ≡ state_after s n c a

-- what comes of a command, and can be done
pub record Decides (s : State) (n : ℕ) (c : Command) (d : Decision) : Type 0 where
  pub answered : d.answer ≡ answer_of s n c
  pub effected : d.effect ≡ effect_after s n c d.answer
  pub possible : IsPossible s d.effect

-- the command that takes a token
abbrev pub taking : Mode → Operand → Command
taking mode.Read on = command.Read on
taking mode.Write on = command.Write on

-- another node's hold keeps a node from reading, or from writing
abbrev pub is_excluded : Mode → State → ℕ → ℕ → Bool
is_excluded mode.Read = other_writes
is_excluded mode.Write = other_holds

-- why a field can't be used
abbrev pub missing_field : Option Val → Option Refusal
missing_field None = Some refusal.Index
missing_field (Some v) = None

-- why a command on a field is refused, where it reads or writes the field
abbrev pub field_refusal : Mode → State → ℕ → Option ℕ → ℕ → Option Refusal
field_refusal m s n None index = Some refusal.Empty
field_refusal m s n (Some name) index =
    if permits m (s.held n name) then missing_field (slice_get (fields_of s name) index) else Some refusal.NoToken

-- a command on a field may use it: what the operand means, and what stands in the field
pub record FindsField (m : Mode) (s : State) (n : ℕ) (target : Option ℕ) (index : ℕ) (name : ℕ) (v : Val) : Type 0 where
  pub meant : target ≡ Some name
  pub permitted : permits m (s.held n name) ≡ true
  pub there : slice_get (fields_of s name) index ≡ Some v
