-- What a node waits for: the token that the command which it waits with is to take.
use Rattle.std.specs.Prelude.{◌≡◌, ℕ, ◌<◌, List, Option, Some, None}
use Rattle.bmx_types.specs.declared.numbers.Mode.{Mode}
use Rattle.bmx_types.specs.declared.numbers.Mode.TheVariants as mode
use Rattle.bmx_types.specs.declared.commands.Operand.{Operand}
use Rattle.bmx_types.specs.declared.commands.Command.{Command}
use Rattle.bmx_types.specs.declared.commands.Command.TheVariants as command
use Rattle.bmx_graph.specs.Step.{target_of}
use Rattle.bmx_protocol.specs.declared.events.Event.{Event}
use Rattle.bmx_protocol.specs.Nodes.{Setting, Known, seen_graph}
use Rattle.bmx_protocol.specs.Histories.{waits_with}
use Rattle.bmx_protocol.specs.Worlds.{World}

-- the token that a command takes: its mode, and the operand that means its object
abbrev pub taking : Command → Option (Mode × Operand)
taking (command.New register bunch size) = None
taking (command.Copy register value) = None
taking (command.Drop register) = None
taking (command.Read on) = Some (mode.Read, on)
taking (command.Write on) = Some (mode.Write, on)
taking (command.Done on) = None
taking (command.Set on index value) = None
taking (command.Add on index by) = None
taking (command.Get register on index) = None
taking (command.Show on index) = None
taking (command.Same left right) = None

-- node n waits for the token of x in a mode: after the history it waits with a command that takes it
pub record WaitsFor (w : World) (history : List Event) (n : ℕ) (m : Mode) (x : ℕ) : Type 0 where
  pub command : Command
  pub operand : Operand
  pub waits : waits_with n None history ≡ Some command
  pub takes : taking command ≡ Some (m, operand)
  pub means : target_of (seen_graph n (w.state n)) n operand ≡ Some x

-- node n wants the token of x in a mode
pub record Wants (w : World) (n : ℕ) (m : Mode) (x : ℕ) : Type 0 where
  pub known : Known
  pub knows : (w.state n).known x ≡ Some known
  pub want : known.part.want ≡ Some m

-- what nodes want is what they wait for: each want is of the command that the node waits with, each command that a
-- node waits with takes a token that the node wants; and so a node wants one name at most
pub record WantsAreWaitedFor (st : Setting) (w : World) (history : List Event) : Type 0 where
  pub wanted : (n : ℕ) (m : Mode) (x : ℕ) → n < st.nodes → Wants w n m x → WaitsFor w history n m x
  pub waited : (n : ℕ) (c : Command) → n < st.nodes → waits_with n None history ≡ Some c →
      (m : Mode) × (x : ℕ) × WaitsFor w history n m x × Wants w n m x
  pub one : (n : ℕ) (m k : Mode) (x y : ℕ) → n < st.nodes → Wants w n m x → Wants w n k y → (x ≡ y) × (m ≡ k)
