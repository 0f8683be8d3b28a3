-- Runs of the graph worked by hand, each closed by computing.
use Rattle.std.specs.Prelude.{◌≡◌, ℕ, ◌^◌, ◌-◌, pos, negsuc, List, [], ◌∷◌, replicate, refl}
use Rattle.bmx_types.specs.declared.values.Val.TheVariants as val
use Rattle.bmx_types.specs.declared.commands.Operand.{Operand}
use Rattle.bmx_types.specs.declared.commands.Operand.TheVariants as operand
use Rattle.bmx_types.specs.declared.commands.Command.{Command}
use Rattle.bmx_types.specs.declared.commands.Command.TheVariants as command
use Rattle.bmx_types.specs.declared.commands.Refusal.TheVariants as refusal
use Rattle.bmx_graph.specs.declared.answers.Answer.{Answer}
use Rattle.bmx_graph.specs.declared.answers.Answer.TheVariants as answer
use Rattle.bmx_graph.specs.State.{State, opening_state}
use Rattle.bmx_graph.specs.Step.{answer_of, state_after}

-- what the graph answers a list of nodes' commands
abbrev pub answers_to : State → List (ℕ × Command) → List Answer
answers_to s [] = []
answers_to s (c ∷ cs) = answer_of s c.0 c.1 ∷ answers_to (state_after s c.0 c.1 (answer_of s c.0 c.1)) cs

-- one bunch and its anchor, 0.1
abbrev pub one_bunch : State
one_bunch = opening_state (record { name = 1; bunch = 0; fields = replicate 32 val.Null } ∷ [])

abbrev pub r0 : Operand
r0 = operand.Register 0

abbrev pub anchor : Operand
anchor = operand.Anchor 0

-- a field is set and shown
a_first_run : answers_to one_bunch (
    (0, command.New 0 0 1) ∷ (0, command.Write r0) ∷ (0, command.Set r0 0 (operand.Int (pos 5))) ∷ (0, command.Show r0 0) ∷ (0, command.Done r0) ∷ [])
    ≡ answer.Nil ∷ answer.Nil ∷ answer.Nil ∷ answer.Value (val.Int (pos 5)) ∷ answer.Nil ∷ []
a_first_run = refl

-- each refusal but Full, which the graph never gives, and Index
refusals : answers_to one_bunch (
    (0, command.New 0 0 1) ∷ (0, command.Set r0 0 (operand.Int (pos 1))) ∷ (0, command.Write r0) ∷ (0, command.Write r0)
    ∷ (0, command.Add r0 0 (pos 1)) ∷ (0, command.Done r0) ∷ (0, command.Done r0) ∷ (0, command.Read (operand.Register 1))
    ∷ (0, command.Read r0) ∷ (0, command.Show r0 0) ∷ [])
    ≡ answer.Nil ∷ answer.Refused refusal.NoToken ∷ answer.Nil ∷ answer.Refused refusal.Held
    ∷ answer.Refused refusal.Number ∷ answer.Nil ∷ answer.Refused refusal.NoToken ∷ answer.Refused refusal.Empty
    ∷ answer.Nil ∷ answer.Value val.Null ∷ []
refusals = refl

-- the least number fits a field, and field 32 is none
the_largest_object : answers_to one_bunch (
    (0, command.New 0 0 32) ∷ (0, command.Write r0) ∷ (0, command.Set r0 31 (operand.Int (negsuc (2 ^ 63 - 1))))
    ∷ (0, command.Show r0 31) ∷ (0, command.Show r0 32) ∷ (0, command.Add r0 31 (negsuc 0)) ∷ [])
    ≡ answer.Nil ∷ answer.Nil ∷ answer.Nil ∷ answer.Value (val.Int (negsuc (2 ^ 63 - 1))) ∷ answer.Refused refusal.Index
    ∷ answer.Refused refusal.Number ∷ []
the_largest_object = refl

-- two nodes: a reference goes through the anchor; readers share, a writer waits for them
two_nodes : answers_to one_bunch (
    (0, command.New 0 0 1) ∷ (0, command.Write anchor) ∷ (0, command.Set anchor 0 r0) ∷ (1, command.Read anchor)
    ∷ (0, command.Done anchor) ∷ (1, command.Read anchor) ∷ (1, command.Get 3 anchor 0) ∷ (1, command.Same (operand.Register 3) anchor)
    ∷ (0, command.Read anchor) ∷ (2, command.Write anchor) ∷ (1, command.Show anchor 0) ∷ [])
    ≡ answer.Nil ∷ answer.Nil ∷ answer.Nil ∷ answer.Wait ∷ answer.Nil ∷ answer.Nil ∷ answer.Value (val.Ref 2) ∷ answer.No
    ∷ answer.Nil ∷ answer.Wait ∷ answer.Value (val.Ref 2) ∷ []
two_nodes = refl
