-- What a node is seen as: its state by names, where objects lie, and its stamp.
use Rattle.std.specs.Prelude.{◌≡◌, ℕ, ◌<◌, ◌≤◌}
use Rattle.bmx_types.specs.Openings.{bunches_of}
use Rattle.bmx_types.specs.declared.commands.Operand.{Operand}
use Rattle.bmx_types.specs.declared.commands.Command.{Command}
use Rattle.bmx_tokens.specs.Tables.{part_at}
use Rattle.bmx_protocol.specs.declared.inputs.Input.{Input}
use Rattle.bmx_protocol.specs.Nodes.{Setting, NodeState}
use Rattle.bmx_protocol.specs.Places.{Places}
use Rattle.bmx_protocol.specs.Steps.{Node}
use Rattle.bmx_memory.specs.Shown.{shown, known_with}
use Rattle.bmx_mail.specs.Mails.{entering_of, issued_of, taken_of}
use Rattle.bmx_node.specs.declared.holdings.Holdings.{Holdings}
use Rattle.bmx_types.specs.declared.commands.Operand.TheVariants as operand
use Rattle.bmx_types.specs.declared.commands.Command.TheVariants as command
use Rattle.bmx_protocol.specs.declared.inputs.Input.TheVariants as input

-- the state of what a node has
unfoldable pub state_of : Holdings → NodeState
state_of h = record {
  known = known_with (shown h.memory).object (part_at h.tokens);
  register = (shown h.memory).register;
  entering = entering_of h.mail;
  issued = issued_of h.mail;
  taken = taken_of h.mail;
  clock = h.clock;
  made = h.made;
}

-- where its objects lie
unfoldable pub places_of : Holdings → Places
places_of h = (shown h.memory).places

-- both
abbrev pub node_of : Holdings → Node
node_of h = record { state = state_of h; places = places_of h }

-- how many segments it may make
unfoldable pub limit_of : Holdings → ℕ
limit_of h = (shown h.memory).limit

-- it is a node of a store that opens so
pub record Suits (st : Setting) (h : Holdings) : Type 0 where
  pub nodes : st.nodes ≡ h.store.nodes
  pub bunches : bunches_of st.births ≡ h.store.bunches
  pub limit : st.limit ≡ limit_of h

-- an operand's register is one of the 16, and its bunch one of so many
abbrev pub FitsOperand : ℕ → Operand → Type 0
FitsOperand bunches (operand.Register r) = r < 16
FitsOperand bunches (operand.Anchor bunch) = bunch < bunches
FitsOperand bunches (operand.Int k) = Unit {0}
FitsOperand bunches operand.Null = Unit {0}

-- the same of a command, and a new object has at most 32 fields
abbrev pub FitsCommand : ℕ → Command → Type 0
FitsCommand bunches (command.New register bunch size) = (register < 16) × (bunch < bunches) × (size ≤ 32)
FitsCommand bunches (command.Copy register value) = (register < 16) × FitsOperand bunches value
FitsCommand bunches (command.Drop register) = register < 16
FitsCommand bunches (command.Read on) = FitsOperand bunches on
FitsCommand bunches (command.Write on) = FitsOperand bunches on
FitsCommand bunches (command.Done on) = FitsOperand bunches on
FitsCommand bunches (command.Set on index value) = FitsOperand bunches on × FitsOperand bunches value
FitsCommand bunches (command.Add on index by) = FitsOperand bunches on
FitsCommand bunches (command.Get register on index) = (register < 16) × FitsOperand bunches on
FitsCommand bunches (command.Show on index) = FitsOperand bunches on
FitsCommand bunches (command.Same left right) = FitsOperand bunches left × FitsOperand bunches right

-- the numbers of a command are in their ranges; a serve and a letter may name anything
abbrev pub FitsInput : ℕ → Input → Type 0
FitsInput bunches (input.Do c) = FitsCommand bunches c
FitsInput bunches (input.Serve name) = Unit {0}
FitsInput bunches (input.Take from letter) = Unit {0}
