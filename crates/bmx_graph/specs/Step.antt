-- The steps of the graph: what a node's command is answered, and what it changes.
use Rattle.std.specs.Prelude.{◌≡◌, ℕ, ◌+◌, ◌==◌, ℤ, ◌+ℤ◌, Bool, true, false, not, ◌&&◌, if◌then◌else◌, List, [], ◌∷◌, replicate, slice_get, slice_set, Option, Some, None, is_some, IsSome, ◌<◌}
use Rattle.std.specs.Option.{option_map}
use Rattle.std.specs.Ordering.{int_eq}
use Rattle.std.specs.List.{list_any}
use Rattle.bmx_types.specs.Integers.{is_i64}
use Rattle.bmx_types.specs.Words.{name_word, anchor_of}
use Rattle.bmx_types.specs.declared.values.Val.{Val}
use Rattle.bmx_types.specs.declared.values.Val.TheVariants as val
use Rattle.bmx_types.specs.declared.numbers.Mode.{Mode}
use Rattle.bmx_types.specs.declared.numbers.Mode.TheVariants as mode
use Rattle.bmx_types.specs.declared.commands.Operand.{Operand}
use Rattle.bmx_types.specs.declared.commands.Operand.TheVariants as operand
use Rattle.bmx_types.specs.declared.commands.Command.{Command}
use Rattle.bmx_types.specs.declared.commands.Command.TheVariants as command
use Rattle.bmx_types.specs.declared.commands.Refusal.TheVariants as refusal
use Rattle.bmx_graph.specs.declared.answers.Answer.{Answer}
use Rattle.bmx_graph.specs.declared.answers.Answer.TheVariants as answer
use Rattle.bmx_graph.specs.declared.effects.Effect.{Effect}
use Rattle.bmx_graph.specs.declared.effects.Effect.TheVariants.{Nothing, Makes, Sets, Stores, Holds}
use Rattle.bmx_graph.specs.State.{State, fields_of}
use Rattle.bmx_types.specs.Updates.{put, put_at}

-- what an operand stands for at a node
abbrev pub value_of : State → ℕ → Operand → Val
value_of s n (operand.Register r) = s.register n r
value_of s n (operand.Anchor b) = val.Ref (anchor_of b)
value_of s n (operand.Int k) = val.Int k
value_of s n operand.Null = val.Null

-- the name that a value refers to
abbrev pub reference : Val → Option ℕ
reference val.Null = None
reference (val.Int k) = None
reference (val.Ref name) = Some name

-- the name that a command on an operand is about
abbrev pub target_of : State → ℕ → Operand → Option ℕ
target_of s n on = reference (value_of s n on)

-- two values are the same
abbrev pub same_value : Val → Val → Bool
same_value val.Null val.Null = true
same_value val.Null (val.Int b) = false
same_value val.Null (val.Ref y) = false
same_value (val.Int a) val.Null = false
same_value (val.Int a) (val.Int b) = int_eq a b
same_value (val.Int a) (val.Ref y) = false
same_value (val.Ref x) val.Null = false
same_value (val.Ref x) (val.Int b) = false
same_value (val.Ref x) (val.Ref y) = x == y

-- held for writing
abbrev pub is_writer : Option Mode → Bool
is_writer None = false
is_writer (Some mode.Read) = false
is_writer (Some mode.Write) = true

-- the nodes that there may be
abbrev pub all_nodes : List ℕ
all_nodes = 0 ∷ 1 ∷ 2 ∷ 3 ∷ 4 ∷ 5 ∷ 6 ∷ 7 ∷ []

-- a node other than n holds the name
abbrev pub other_holds : State → ℕ → ℕ → Bool
other_holds s n name = list_any (λ m. not (m == n) && is_some (s.held m name)) all_nodes

-- a node other than n holds the name for writing
abbrev pub other_writes : State → ℕ → ℕ → Bool
other_writes s n name = list_any (λ m. not (m == n) && is_writer (s.held m name)) all_nodes

-- the sum of a field and a number, None where the field is no number or the sum is no i64
abbrev pub sum_of : Val → ℤ → Option ℤ
sum_of val.Null by = None
sum_of (val.Ref name) by = None
sum_of (val.Int k) by = if is_i64 (k +ℤ by) then Some (k +ℤ by) else None

-- read: the answer where the operand means that name, or nothing
abbrev pub read_answer : State → ℕ → Option ℕ → Answer
read_answer s n None = answer.Refused refusal.Empty
read_answer s n (Some name) =
    if is_some (s.held n name) then answer.Refused refusal.Held
    else (if other_writes s n name then answer.Wait else answer.Nil)

abbrev pub write_answer : State → ℕ → Option ℕ → Answer
write_answer s n None = answer.Refused refusal.Empty
write_answer s n (Some name) =
    if is_some (s.held n name) then answer.Refused refusal.Held
    else (if other_holds s n name then answer.Wait else answer.Nil)

abbrev pub done_answer : State → ℕ → Option ℕ → Answer
done_answer s n None = answer.Refused refusal.Empty
done_answer s n (Some name) = if is_some (s.held n name) then answer.Nil else answer.Refused refusal.NoToken

-- what a field's store is answered, by what stands in the field
abbrev pub set_at : Option Val → Answer
set_at None = answer.Refused refusal.Index
set_at (Some v) = answer.Nil

abbrev pub set_answer : State → ℕ → Option ℕ → ℕ → Answer
set_answer s n None index = answer.Refused refusal.Empty
set_answer s n (Some name) index =
    if is_writer (s.held n name) then set_at (slice_get (fields_of s name) index)
    else answer.Refused refusal.NoToken

abbrev pub add_to : Option ℤ → Answer
add_to None = answer.Refused refusal.Number
add_to (Some k) = answer.Nil

abbrev pub add_at : Option Val → ℤ → Answer
add_at None by = answer.Refused refusal.Index
add_at (Some v) by = add_to (sum_of v by)

abbrev pub add_answer : State → ℕ → Option ℕ → ℕ → ℤ → Answer
add_answer s n None index by = answer.Refused refusal.Empty
add_answer s n (Some name) index by =
    if is_writer (s.held n name) then add_at (slice_get (fields_of s name) index) by
    else answer.Refused refusal.NoToken

abbrev pub get_at : Option Val → Answer
get_at None = answer.Refused refusal.Index
get_at (Some v) = answer.Value v

-- get and show
abbrev pub get_answer : State → ℕ → Option ℕ → ℕ → Answer
get_answer s n None index = answer.Refused refusal.Empty
get_answer s n (Some name) index =
    if is_some (s.held n name) then get_at (slice_get (fields_of s name) index)
    else answer.Refused refusal.NoToken

-- what the graph answers a node's command
abbrev pub answer_of : State → ℕ → Command → Answer
answer_of s n (command.New register bunch size) = answer.Nil
answer_of s n (command.Copy register value) = answer.Nil
answer_of s n (command.Drop register) = answer.Nil
answer_of s n (command.Read on) = read_answer s n (target_of s n on)
answer_of s n (command.Write on) = write_answer s n (target_of s n on)
answer_of s n (command.Done on) = done_answer s n (target_of s n on)
answer_of s n (command.Set on index value) = set_answer s n (target_of s n on) index
answer_of s n (command.Add on index by) = add_answer s n (target_of s n on) index by
answer_of s n (command.Get register on index) = get_answer s n (target_of s n on) index
answer_of s n (command.Show on index) = get_answer s n (target_of s n on) index
answer_of s n (command.Same left right) =
    if same_value (value_of s n left) (value_of s n right) then answer.Yes else answer.No

-- a register becomes the value
abbrev pub with_register : State → ℕ → ℕ → Val → State
with_register s n register v = record {
  object = s.object;
  register = put_at s.register n register v;
  held = s.held;
  made = s.made;
}

-- a node's hold of a name becomes this
abbrev pub with_held : State → ℕ → ℕ → Option Mode → State
with_held s n name hold = record {
  object = s.object;
  register = s.register;
  held = put_at s.held n name hold;
  made = s.made;
}

-- a field of an object becomes the value
abbrev pub with_field : State → ℕ → ℕ → Val → State
with_field s name index v = record {
  object = put s.object name (Some (slice_set (fields_of s name) index v));
  register = s.register;
  held = s.held;
  made = s.made;
}

-- the next name that a node makes
abbrev pub next_name : State → ℕ → ℕ
next_name s n = name_word n (s.made n + 1)

-- a new object of null fields, and the register that refers to it
abbrev pub with_new : State → ℕ → ℕ → ℕ → State
with_new s n register size = record {
  object = put s.object (next_name s n) (Some (replicate size val.Null));
  register = put_at s.register n register (val.Ref (next_name s n));
  held = s.held;
  made = put s.made n (s.made n + 1);
}

-- the field that a command on an operand is about
abbrev pub field_at : State → Option ℕ → ℕ → Option Val
field_at s None index = None
field_at s (Some name) index = slice_get (fields_of s name) index

-- ## what a command changes

-- of the name that an operand means, if any
abbrev pub holding : Option ℕ → Option Mode → Effect
holding None hold = Nothing
holding (Some name) hold = Holds name hold

abbrev pub storing : Option ℕ → ℕ → Option Val → Effect
storing None index v = Nothing
storing (Some name) index None = Nothing
storing (Some name) index (Some v) = Stores name index v

-- a register gets the value of a field, if there is one
abbrev pub setting : ℕ → Option Val → Effect
setting register None = Nothing
setting register (Some v) = Sets register v

-- a field and a number together, where the sum can be had
abbrev pub raised_by : Option Val → ℤ → Option Val
raised_by None by = None
raised_by (Some v) by = option_map (λ k. val.Int k) (sum_of v by)

-- what a command does to the graph where it is done
abbrev pub effect : State → ℕ → Command → Effect
effect s n (command.New register bunch size) = Makes register bunch size
effect s n (command.Copy register value) = Sets register (value_of s n value)
effect s n (command.Drop register) = Sets register val.Null
effect s n (command.Read on) = holding (target_of s n on) (Some mode.Read)
effect s n (command.Write on) = holding (target_of s n on) (Some mode.Write)
effect s n (command.Done on) = holding (target_of s n on) None
effect s n (command.Set on index value) = storing (target_of s n on) index (Some (value_of s n value))
effect s n (command.Add on index by) = storing (target_of s n on) index (raised_by (field_at s (target_of s n on) index) by)
effect s n (command.Get register on index) = setting register (field_at s (target_of s n on) index)
effect s n (command.Show on index) = Nothing
effect s n (command.Same left right) = Nothing

-- the graph after an effect of a node's command
abbrev pub changed : State → ℕ → Effect → State
changed s n Nothing = s
changed s n (Makes register bunch size) = with_new s n register size
changed s n (Sets register v) = with_register s n register v
changed s n (Stores name index v) = with_field s name index v
changed s n (Holds name hold) = with_held s n name hold

-- what a command does that was answered so: where it waits or is refused, nothing
abbrev pub effect_after : State → ℕ → Command → Answer → Effect
effect_after s n c answer.Wait = Nothing
effect_after s n c (answer.Refused why) = Nothing
effect_after s n c answer.Nil = effect s n c
effect_after s n c (answer.Value v) = effect s n c
effect_after s n c answer.Yes = effect s n c
effect_after s n c answer.No = effect s n c

-- the state after a command that was answered so
abbrev pub state_after : State → ℕ → Command → Answer → State
state_after s n c a = changed s n (effect_after s n c a)

-- an effect that can be had: its register is one of the 16, and its field is there
abbrev pub IsPossible : State → Effect → Type 0
IsPossible s Nothing = Unit {0}
IsPossible s (Makes register bunch size) = register < 16
IsPossible s (Sets register v) = register < 16
IsPossible s (Stores name index v) = IsSome (slice_get (fields_of s name) index)
IsPossible s (Holds name hold) = Unit {0}

-- what a node may answer in place of the graph's answer: it may wait for a token that it would get,
-- and have no segment for a new object
abbrev pub MayAnswer : Command → Answer → Answer → Type 0
MayAnswer (command.Read on) answer.Nil answer.Wait = Unit {0}
MayAnswer (command.Write on) answer.Nil answer.Wait = Unit {0}
MayAnswer (command.New register bunch size) answer.Nil (answer.Refused refusal.Full) = Unit {0}
MayAnswer c graphs a = a ≡ graphs

-- a step of the graph: this command of the node may be answered so
abbrev pub IsAnswer : State → ℕ → Command → Answer → Type 0
IsAnswer s n c a = MayAnswer c (answer_of s n c) a

-- a command of a node and its answer
pub record Act : Type 0 where
  pub node : ℕ
  pub command : Command
  pub answer : Answer

-- the acts are steps one after another
abbrev pub IsRun : State → List Act → Type 0
IsRun s [] = Unit {0}
IsRun s (a ∷ acts) = IsAnswer s a.node a.command a.answer × IsRun (state_after s a.node a.command a.answer) acts

-- the state after them
abbrev pub state_after_all : State → List Act → State
state_after_all s [] = s
state_after_all s (a ∷ acts) = state_after_all (state_after s a.node a.command a.answer) acts
