-- A node's step: the rule of its input, with its messages numbered and recorded and the step counted; the
-- places beside it; and the stamps.
use Rattle.std.specs.Prelude.{◌≡◌, ℕ, ◌+◌, nat_lt, max, Bool, true, false, ◌||◌, if◌then◌else◌, List, [], ◌∷◌, ◌++◌, map, Option, Some, None, unwrap_or}
use Rattle.std.specs.Option.{option_map_or}
use Rattle.std.specs.List.{flat_map}
use Rattle.bmx_types.specs.declared.commands.Command.{Command}
use Rattle.bmx_types.specs.declared.commands.Command.TheVariants as command
use Rattle.bmx_types.specs.declared.addresses.Place.{Place}
use Rattle.bmx_types.specs.Updates.{put}
use Rattle.bmx_msg.specs.declared.letters.Letter.{Letter}
use Rattle.bmx_msg.specs.Letters.{given}
use Rattle.bmx_protocol.specs.declared.inputs.Input.{Input}
use Rattle.bmx_protocol.specs.declared.inputs.Input.TheVariants as input
use Rattle.bmx_protocol.specs.declared.inputs.NodeAnswer.{NodeAnswer}
use Rattle.bmx_protocol.specs.declared.inputs.NodeAnswer.TheVariants as answer
use Rattle.bmx_protocol.specs.declared.inputs.Sending.{Sending}
use Rattle.bmx_protocol.specs.declared.inputs.Done.{Done}
use Rattle.bmx_protocol.specs.Nodes.{Setting, NodeState, first_state}
use Rattle.bmx_protocol.specs.Places.{Places, is_full, with_made, with_all_learnt, first_places}
use Rattle.bmx_protocol.specs.Changes.{Change, Gives, Issues, after_changes, with_step}
use Rattle.bmx_protocol.specs.Rules.{Draft, Reaction, only, do_rule, serve_rule, take_rule, next_name, infos}
use Rattle.bmx_protocol.specs.Strays.{too_large, is_bad_letter, some_clash}

-- a node: its state by names, and beside it where objects lie
pub record Node : Type 0 where
  pub state : NodeState
  pub places : Places

-- a node as the store opens
abbrev pub first_node : Setting → ℕ → Node
first_node st me = record { state = first_state st me; places = first_places st me }

-- ## inputs

-- the command in an input
abbrev pub command_in : Input → Option Command
command_in (input.Do c) = Some c
command_in (input.Serve name) = None
command_in (input.Take from letter) = None

-- the letter in an input, and its sender
abbrev pub letter_in : Input → Option (ℕ × Letter)
letter_in (input.Do c) = None
letter_in (input.Serve name) = None
letter_in (input.Take from letter) = Some (from, letter)

-- ## what a rule is told

-- what a rule is told beside the state: whether a new object finds no segment, whether the Infos of the
-- letter clash, and where objects lie
pub record Told : Type 0 where
  pub full : Bool
  pub clash : Bool
  pub lies : ℕ → Place

-- no address, for a name that lies nowhere
abbrev pub nowhere : Place
nowhere = record { address = 0; moves = 0 }

-- a command finds no segment for a new object
abbrev pub finds_full : Setting → Places → Command → Bool
finds_full st a (command.New register bunch size) = is_full st.limit a bunch size
finds_full st a c = false

-- the places of a node tell this of an input
pub record IsTold (st : Setting) (me : ℕ) (n : Node) (i : Input) (t : Told) : Type 0 where
  pub full : t.full ≡ option_map_or (finds_full st n.places) (command_in i) false
  pub clash : t.clash ≡ option_map_or (λ (l : ℕ × Letter). some_clash me l.0 n.state.known n.places (infos l.1.msg)) (letter_in i) false
  pub lies : (name : ℕ) → t.lies name ≡ unwrap_or (n.places.place name) nowhere

-- ## the rule of an input

-- a letter that is bad, or whose Infos clash, is stray
abbrev pub letter_rule : Setting → ℕ → NodeState → Told → ℕ → Letter → Reaction
letter_rule st me s t from letter =
    if is_bad_letter st me s from letter || t.clash then only answer.Stray
    else take_rule me s t.lies from letter.seq letter.msg

abbrev pub rule : Setting → ℕ → NodeState → Told → Input → Reaction
rule st me s t (input.Do c) = do_rule me s t.full t.lies c
rule st me s t (input.Serve name) = serve_rule me s t.lies name
rule st me s t (input.Take from letter) = letter_rule st me s t from letter

-- ## numbering and counting

-- messages as letters of a stamp: the next number to each node
abbrev pub numbered : (ℕ → ℕ) → ℕ → List Draft → List Sending
numbered issued stamp [] = []
numbered issued stamp (d ∷ drafts) =
    record { to = d.to; letter = record { seq = issued d.to + 1; stamp = stamp; msg = d.msg } }
    ∷ numbered (put issued d.to (issued d.to + 1)) stamp drafts

-- the letters of an outcome at a stamp
abbrev pub letters_of : ℕ → NodeState → Reaction → List Sending
letters_of stamp s o = numbered s.issued stamp o.drafts

-- what a letter that is issued changes: the records of the names that it gives, and the count
abbrev pub sent_changes : Sending → List Change
sent_changes l = map (λ name. Gives name l.to l.letter.seq) (given l.letter.msg) ++ Issues l.to ∷ []

-- all changes of an outcome at a stamp
abbrev pub changes_of : ℕ → NodeState → Reaction → List Change
changes_of stamp s o = o.changes ++ flat_map sent_changes (letters_of stamp s o)

-- the state after an outcome at a stamp: its changes are made, and the step is counted
abbrev pub closed : ℕ → NodeState → Reaction → NodeState
closed stamp s o = with_step (after_changes s (changes_of stamp s o))

-- what a step answers and issues
abbrev pub done_of : ℕ → NodeState → Reaction → Done
done_of stamp s o = record { answer = o.answer; letters = letters_of stamp s o }

-- ## the places

-- a stray letter doesn't count as taken
abbrev pub is_taken : NodeAnswer → Bool
is_taken answer.Stray = false
is_taken a = true

-- a command was done and shows nothing
abbrev pub is_nil : NodeAnswer → Bool
is_nil answer.Nil = true
is_nil a = false

-- an object is made where a command made one
abbrev pub made_places : ℕ → Node → Command → Places
made_places me n (command.New register bunch size) = with_made me n.places (next_name me n.state) bunch size
made_places me n c = n.places

-- what an input that was answered so makes of the places: a new object is placed, and what a letter tells of
-- places is learnt
abbrev pub MovesTo : ℕ → Node → Told → Input → NodeAnswer → Places → Type 0
MovesTo me n t (input.Do c) a places = places ≡ (if is_nil a then made_places me n c else n.places)
MovesTo me n t (input.Serve name) a places = places ≡ n.places
MovesTo me n t (input.Take from letter) a places =
    places ≡ (if is_taken a then with_all_learnt n.places (infos letter.msg) else n.places)

-- ## the step

-- a node's step at a stamp: from a node, by an input, to an outcome and a node
pub record IsStep (st : Setting) (me : ℕ) (old : Node) (stamp : ℕ) (i : Input) (done : Done) (new : Node) : Type 0 where
  pub told : Told
  pub is_told : IsTold st me old i told
  pub outcome : done ≡ done_of stamp old.state (rule st me old.state told i)
  pub state : new.state ≡ closed stamp old.state (rule st me old.state told i)
  pub places : MovesTo me old told i done.answer new.places

-- ## stamps

-- the stamp that an input brings: a letter's, unless it is too large
abbrev pub brought : Input → ℕ
brought i = option_map_or (λ (l : ℕ × Letter). if nat_lt l.1.stamp too_large then l.1.stamp else 0) (letter_in i) 0

-- a node's stamp after a step
abbrev pub stamp_after : ℕ → Input → ℕ
stamp_after stamp i = max stamp (brought i) + 1
