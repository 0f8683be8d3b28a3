-- What a `Graph` shows: the state that it is in, and the commands that it takes.
use Rattle.std.specs.Prelude.{ℕ, ◌+◌, ◌*◌, ◌==◌, ◌<◌, Bool, ◌&&◌, if◌then◌else◌, nat_lt, List, slice_index, slice_index_or}
use Rattle.std.specs.Option.{option_map}
use Rattle.std.specs.HashMap.{get}
use Rattle.bmx_types.specs.Words.{maker, count_of}
use Rattle.bmx_types.specs.declared.values.Val.{Val}
use Rattle.bmx_types.specs.declared.values.Val.TheVariants as val
use Rattle.bmx_types.specs.declared.commands.Operand.{Operand}
use Rattle.bmx_types.specs.declared.commands.Operand.TheVariants as operand
use Rattle.bmx_types.specs.declared.commands.Command.{Command}
use Rattle.bmx_types.specs.declared.commands.Command.TheVariants as command
use Rattle.bmx_graph.specs.declared.graphs.Graph.{Graph}
use Rattle.bmx_graph.specs.State.{State}

-- two names are the same, as the keys of a map are compared
abbrev pub same_name : ℕ → ℕ → Bool
same_name x y = x == y

-- the same node and the same name
abbrev pub same_hold : ℕ × ℕ → ℕ × ℕ → Bool
same_hold a b = a.0 == b.0 && same_name a.1 b.1

-- what a register of a node holds, in a table of 16 for each node
abbrev pub register_in : List Val → ℕ → ℕ → Val
register_in table n r = if nat_lt r 16 then slice_index_or table (16 * n + r) val.Null else val.Null

-- the state that a graph is in
unfoldable pub state_of : Graph → State
state_of g = record {
  object = λ name. option_map (λ fields. fields.items) (get same_name g.objects name);
  register = register_in g.registers;
  held = λ n name. get same_hold g.held (n, name);
  made = λ n. slice_index g.made n;
}

-- how many bunches a graph opened with
abbrev pub bunches_in : Graph → ℕ
bunches_in g = g.bunches

-- where an operand is a register, it is one of the 16
abbrev pub IsOperand : Operand → Type 0
IsOperand (operand.Register r) = r < 16
IsOperand (operand.Anchor bunch) = Unit {0}
IsOperand (operand.Int k) = Unit {0}
IsOperand operand.Null = Unit {0}

-- the registers of a command are of the 16
abbrev pub HasRegisters : Command → Type 0
HasRegisters (command.New register bunch size) = register < 16
HasRegisters (command.Copy register value) = (register < 16) × IsOperand value
HasRegisters (command.Drop register) = register < 16
HasRegisters (command.Read on) = IsOperand on
HasRegisters (command.Write on) = IsOperand on
HasRegisters (command.Done on) = IsOperand on
HasRegisters (command.Set on index value) = IsOperand on × IsOperand value
HasRegisters (command.Add on index by) = IsOperand on
HasRegisters (command.Get register on index) = (register < 16) × IsOperand on
HasRegisters (command.Show on index) = IsOperand on
HasRegisters (command.Same left right) = IsOperand left × IsOperand right
