-- Histories: the letters that were issued and taken, and when a history is legal.
use Rattle.std.specs.Prelude.{◌≡◌, ℕ, ◌+◌, ◌^◌, ◌<◌, ◌≤◌, ◌==◌, Bool, true, false, if◌then◌else◌, List, [], ◌∷◌, ◌++◌, length, drop, filter, filter_map, count_by, slice_get, Contains, Option, Some, None, IfSome}
use Rattle.std.specs.Option.{option_map_or, option_and_then}
use Rattle.bmx_types.specs.Openings.{bunches_of}
use Rattle.bmx_types.specs.declared.commands.Operand.{Operand}
use Rattle.bmx_types.specs.declared.commands.Operand.TheVariants as operand
use Rattle.bmx_types.specs.declared.commands.Command.{Command}
use Rattle.bmx_types.specs.declared.commands.Command.TheVariants as command
use Rattle.bmx_types.specs.Updates.{put}
use Rattle.bmx_msg.specs.declared.letters.Letter.{Letter}
use Rattle.bmx_protocol.specs.declared.inputs.Input.{Input}
use Rattle.bmx_protocol.specs.declared.inputs.Input.TheVariants as input
use Rattle.bmx_protocol.specs.declared.inputs.NodeAnswer.{NodeAnswer}
use Rattle.bmx_protocol.specs.declared.inputs.NodeAnswer.TheVariants as answer
use Rattle.bmx_protocol.specs.declared.inputs.Sending.{Sending}
use Rattle.bmx_protocol.specs.declared.events.Event.{Event}
use Rattle.bmx_protocol.specs.Nodes.{Setting}
use Rattle.bmx_protocol.specs.Steps.{Node, first_node, IsStep, command_in, letter_in, is_taken}

-- ## letters

-- of letters in order, those to a node
abbrev pub letters_to : ℕ → List Sending → List Letter
letters_to m [] = []
letters_to m (l ∷ letters) = if l.to == m then l.letter ∷ letters_to m letters else letters_to m letters

-- the letters from node n to node m that were issued, in order
abbrev pub issued : ℕ → ℕ → List Event → List Letter
issued n m [] = []
issued n m (e ∷ events) =
    if e.node == n then letters_to m e.done.letters ++ issued n m events else issued n m events

-- the letter that an input takes from node n
abbrev pub letter_from : ℕ → Input → Option Letter
letter_from n i = option_and_then (λ (l : ℕ × Letter). if l.0 == n then Some l.1 else None) (letter_in i)

-- the letters from node n that came to node m, in order, the stray ones among them
abbrev pub arrived : ℕ → ℕ → List Event → List Letter
arrived n m events = filter_map (λ e. if e.node == m then letter_from n e.input else None) events

-- the letters from node n that node m has taken, in order, the stray ones left out
abbrev pub taken : ℕ → ℕ → List Event → List Letter
taken n m events = arrived n m (filter (λ e. is_taken e.done.answer) events)

-- the letters from node n to node m that are in flight: issued and not taken
abbrev pub in_flight : ℕ → ℕ → List Event → List Letter
in_flight n m events = drop (length (taken n m events)) (issued n m events)

-- ## what is said of one event, with those before it

-- what an operand names is of the store
abbrev pub IsOperandOf : Setting → Operand → Type 0
IsOperandOf st (operand.Register r) = r < 16
IsOperandOf st (operand.Anchor bunch) = bunch < bunches_of st.births
IsOperandOf st (operand.Int k) = Unit {0}
IsOperandOf st operand.Null = Unit {0}

-- registers are of the 16, bunches of the store, and a size is at most 32
abbrev pub IsCommandOf : Setting → Command → Type 0
IsCommandOf st (command.New register bunch size) = (register < 16) × (bunch < bunches_of st.births) × (size ≤ 32)
IsCommandOf st (command.Copy register value) = (register < 16) × IsOperandOf st value
IsCommandOf st (command.Drop register) = register < 16
IsCommandOf st (command.Read on) = IsOperandOf st on
IsCommandOf st (command.Write on) = IsOperandOf st on
IsCommandOf st (command.Done on) = IsOperandOf st on
IsCommandOf st (command.Set on index value) = IsOperandOf st on × IsOperandOf st value
IsCommandOf st (command.Add on index by) = IsOperandOf st on
IsCommandOf st (command.Get register on index) = (register < 16) × IsOperandOf st on
IsCommandOf st (command.Show on index) = IsOperandOf st on
IsCommandOf st (command.Same left right) = IsOperandOf st left × IsOperandOf st right

-- nodes and bunches that an input names are of the store; a name that is served may be any
abbrev pub IsInputOf : Setting → Input → Type 0
IsInputOf st (input.Do c) = IsCommandOf st c
IsInputOf st (input.Serve name) = Unit {0}
IsInputOf st (input.Take from letter) = from < st.nodes

-- a letter that is taken is the next from its sender to the node, whole, and was issued before
abbrev pub IsNext : List Event → ℕ → Input → Type 0
IsNext past m i =
    IfSome (letter_in i) (λ (l : ℕ × Letter). slice_get (issued l.0 m past) (length (arrived l.0 m past)) ≡ Some l.1)

-- a letter that is taken has a smaller stamp
abbrev pub IsLater : Input → ℕ → Type 0
IsLater i stamp = IfSome (letter_in i) (λ (l : ℕ × Letter). l.1.stamp < stamp)

-- a command is to be given again
abbrev pub is_wait : NodeAnswer → Bool
is_wait answer.Wait = true
is_wait a = false

-- the command that a node waits with after an input, by what it waited with before
abbrev pub waits_after : Option Command → Input → NodeAnswer → Option Command
waits_after w i a = option_map_or (λ c. if is_wait a then Some c else None) (command_in i) w

-- the command that node n waits with after events
abbrev pub waits_with : ℕ → Option Command → List Event → Option Command
waits_with n w [] = w
waits_with n w (e ∷ events) =
    waits_with n (if e.node == n then waits_after w e.input e.done.answer else w) events

-- a node that waits gives the same command again
abbrev pub IsAgain : Option Command → Input → Type 0
IsAgain w i = IfSome w (λ c. IfSome (command_in i) (λ d. d ≡ c))

-- an event may come after those before it, but for what its step makes of the node
pub record Fits (st : Setting) (past : List Event) (e : Event) : Type 0 where
  pub a_node : e.node < st.nodes
  pub an_input : IsInputOf st e.input
  pub few : count_by (λ f. f.node == e.node) past + 1 < 2 ^ 55
  pub rising : (f : Event) → Contains past f → f.node ≡ e.node → f.stamp < e.stamp
  pub later : IsLater e.input e.stamp
  pub early : e.stamp ≤ length past + 1
  pub next : IsNext past e.node e.input
  pub again : IsAgain (waits_with e.node None past) e.input

-- ## replay

-- events are steps of nodes one after another, with their outcomes, and lead to nodes
abbrev pub Replays : Setting → (ℕ → Node) → List Event → (ℕ → Node) → Type 0
Replays st nodes [] last = nodes ≡ last
Replays st nodes (e ∷ events) last =
    (n : Node) × IsStep st e.node (nodes e.node) e.stamp e.input e.done n × Replays st (put nodes e.node n) events last

-- nodes are what a history leads to from the opening
abbrev pub AreAfter : Setting → List Event → (ℕ → Node) → Type 0
AreAfter st history nodes = Replays st (first_node st) history nodes

-- ## legal histories

-- each event fits those before it
abbrev pub EachFits : Setting → List Event → Type 0
EachFits st history = (past rest : List Event) (e : Event) → past ++ e ∷ rest ≡ history → Fits st past e

-- a history is legal: each event fits those before it, and all are steps from the opening
pub record IsLegal (st : Setting) (history : List Event) : Type 0 where
  pub fits : EachFits st history
  pub steps : (nodes : ℕ → Node) × AreAfter st history nodes
