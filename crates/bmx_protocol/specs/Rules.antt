-- The rules of a node's step: what a command, a serve and a letter change in its state, which messages they
-- issue and what they answer. What is about a token goes by the token's transitions (bmx_token), the other
-- commands as the graph does them. Here a message has no number yet, and the step isn't counted.
use Rattle.std.specs.Prelude.{ℕ, ◌+◌, Bool, false, if◌then◌else◌, List, [], ◌∷◌, ◌++◌, map, filter_map, replicate, Option, Some, None, is_some, unwrap_or}
use Rattle.std.specs.Option.{option_map, option_map_or}
use Rattle.bmx_types.specs.declared.values.Val.{Val}
use Rattle.bmx_types.specs.declared.values.Val.TheVariants as val
use Rattle.bmx_types.specs.declared.numbers.Mode.TheVariants as mode
use Rattle.bmx_types.specs.declared.commands.Operand.{Operand}
use Rattle.bmx_types.specs.declared.commands.Command.{Command}
use Rattle.bmx_types.specs.declared.commands.Command.TheVariants as command
use Rattle.bmx_types.specs.declared.commands.Refusal.{Refusal}
use Rattle.bmx_types.specs.declared.commands.Refusal.TheVariants as refusal
use Rattle.bmx_types.specs.declared.addresses.Place.{Place}
use Rattle.bmx_types.specs.declared.addresses.Info.{Info}
use Rattle.bmx_types.specs.Words.{name_word}
use Rattle.bmx_graph.specs.Step.{answer_of, target_of, effect}
use Rattle.bmx_graph.specs.declared.effects.Effect.{Effect}
use Rattle.bmx_graph.specs.declared.effects.Effect.TheVariants as graph_effect
use Rattle.bmx_graph.specs.declared.answers.Answer.{Answer}
use Rattle.bmx_graph.specs.declared.answers.Answer.TheVariants as graph
use Rattle.bmx_msg.specs.declared.letters.Field.{Field}
use Rattle.bmx_msg.specs.declared.letters.Field.TheVariants as msg_field
use Rattle.bmx_msg.specs.declared.letters.Msg.{Msg}
use Rattle.bmx_msg.specs.declared.letters.Msg.TheVariants as msg
use Rattle.bmx_token.specs.declared.answers.Acquire.{Acquire}
use Rattle.bmx_token.specs.declared.answers.Acquire.TheVariants as acquire_is
use Rattle.bmx_token.specs.declared.answers.Release.{Release}
use Rattle.bmx_token.specs.declared.answers.Release.TheVariants as release_is
use Rattle.bmx_token.specs.Tokens.{owner_part, acquire, release}
use Rattle.bmx_token.specs.Transitions.{Share, Note, Asks, Grants, Recalls, Returns, Send, Transition, Operation, Acquires, Releases, Serves, transition_of, can_serve, note_transition}
use Rattle.bmx_protocol.specs.declared.inputs.NodeAnswer.{NodeAnswer}
use Rattle.bmx_protocol.specs.declared.inputs.NodeAnswer.TheVariants as answer
use Rattle.bmx_protocol.specs.declared.views.ViewField.{ViewField}
use Rattle.bmx_protocol.specs.declared.views.ViewField.TheVariants as field
use Rattle.bmx_protocol.specs.Nodes.{NodeState, Known, seen_graph, share_of, with_field}
use Rattle.bmx_protocol.specs.Changes.{Change, Sets, Makes, Knows, Hears, Gets, Takes}

-- a message to a node, before it has a number
pub record Draft : Type 0 where
  pub to : ℕ
  pub msg : Msg

-- what a rule makes of a node: changes and messages, each in order, and the answer
pub record Reaction : Type 0 where
  pub changes : List Change
  pub drafts : List Draft
  pub answer : NodeAnswer

-- nothing changes, and nothing is issued
abbrev pub only : NodeAnswer → Reaction
only a = record { changes = []; drafts = []; answer = a }

abbrev pub refused : Refusal → Reaction
refused why = only (answer.Refused why)

-- ## what messages say

-- what a node tells of an object that lies at a place
abbrev pub info_of : NodeState → (ℕ → Place) → ℕ → Info
info_of s lies name = record {
  name = name;
  bunch = option_map_or (λ k. k.bunch) (s.known name) 0;
  size = option_map_or (λ k. k.size) (s.known name) 0;
  place = lies name;
}

-- a field as a letter tells it, and back
abbrev pub told_field : NodeState → (ℕ → Place) → ViewField → Field
told_field s lies field.Null = msg_field.Null
told_field s lies (field.Int k) = msg_field.Int k
told_field s lies (field.Ref name) = msg_field.Ref (info_of s lies name)

abbrev pub heard_field : Field → ViewField
heard_field msg_field.Null = field.Null
heard_field (msg_field.Int k) = field.Int k
heard_field (msg_field.Ref info) = field.Ref info.name

-- the fields of the node's copy of an object, as a letter tells them
abbrev pub told_fields : NodeState → (ℕ → Place) → ℕ → List Field
told_fields s lies name = map (told_field s lies) (option_map_or (λ k. unwrap_or k.copy []) (s.known name) [])

-- the message of a note about an object: a grant brings what the object is, and its fields
abbrev pub message : Info → List Field → Note → Msg
message info fields (Asks mode.Read asker) = msg.ReadReq info.name asker
message info fields (Asks mode.Write asker) = msg.WriteReq info.name asker
message info fields (Grants mode.Read) = msg.ReadGrant info fields
message info fields (Grants mode.Write) = msg.WriteGrant info fields
message info fields Recalls = msg.Inval info.name
message info fields Returns = msg.InvAck info.name

-- the messages of notes about the object of a name
abbrev pub drafts_of : NodeState → (ℕ → Place) → ℕ → List Send → List Draft
drafts_of s lies name sends =
    map (λ (n : Send). record { to = n.to; msg = message (info_of s lies name) (told_fields s lies name) n.note }) sends

-- the name that a message is about, and its note
abbrev pub name_in : Msg → ℕ
name_in (msg.ReadReq name asker) = name
name_in (msg.WriteReq name asker) = name
name_in (msg.ReadGrant info fields) = info.name
name_in (msg.WriteGrant info fields) = info.name
name_in (msg.Inval name) = name
name_in (msg.InvAck name) = name

abbrev pub note_in : Msg → Note
note_in (msg.ReadReq name asker) = Asks mode.Read asker
note_in (msg.WriteReq name asker) = Asks mode.Write asker
note_in (msg.ReadGrant info fields) = Grants mode.Read
note_in (msg.WriteGrant info fields) = Grants mode.Write
note_in (msg.Inval name) = Recalls
note_in (msg.InvAck name) = Returns

-- what a grant brings: what its object is, and the fields
abbrev pub grant_in : Msg → Option (Info × List Field)
grant_in (msg.ReadReq name asker) = None
grant_in (msg.WriteReq name asker) = None
grant_in (msg.ReadGrant info fields) = Some (info, fields)
grant_in (msg.WriteGrant info fields) = Some (info, fields)
grant_in (msg.Inval name) = None
grant_in (msg.InvAck name) = None

-- the Info in a field
abbrev pub info_in : Field → Option Info
info_in msg_field.Null = None
info_in (msg_field.Int k) = None
info_in (msg_field.Ref info) = Some info

-- the Infos of a message in order: the granted object's, then those of its fields
abbrev pub infos : Msg → List Info
infos m = option_map_or (λ (g : Info × List Field). g.0 ∷ filter_map info_in g.1) (grant_in m) []

-- ## tokens

-- what is known of an object after a transition: the fields stay, or those come that a grant brings, where there is a
-- copy then
abbrev pub with_share : Known → Option (List ViewField) → Share → Known
with_share k fields h = record k { copy = if h.copy then fields else None; part = h.part }

-- the change of what is known; no transition takes an entry away
abbrev pub known_change : ℕ → Option Known → Option (List ViewField) → Option Share → List Change
known_change name None fields h = []
known_change name (Some k) fields None = []
known_change name (Some k) fields (Some h) = Knows name (with_share k fields h) ∷ []

-- what an operation is answered
abbrev pub acquire_answer : Acquire → NodeAnswer
acquire_answer acquire_is.Held = answer.Nil
acquire_answer (acquire_is.Asks parent) = answer.Wait
acquire_answer acquire_is.Waits = answer.Wait
acquire_answer acquire_is.Refused = answer.Refused refusal.Held

abbrev pub release_answer : Release → NodeAnswer
release_answer release_is.Free = answer.Nil
release_answer (release_is.Answers owner) = answer.Nil
release_answer release_is.Refused = answer.Refused refusal.NoToken

abbrev pub operation_answer : ℕ → Operation → Share → NodeAnswer
operation_answer me (Acquires m) h = acquire_answer (acquire me h.part m h.copy).1
operation_answer me Releases h = release_answer (release h.part).1
operation_answer me Serves h = if can_serve me h.part then answer.Nil else answer.Idle

-- by the transition of the token
abbrev pub after_operation : NodeState → (ℕ → Place) → ℕ → Known → NodeAnswer → Option Transition → Reaction
after_operation s lies name k a None = only a
after_operation s lies name k a (Some t) =
    record { changes = known_change name (Some k) k.copy t.after; drafts = drafts_of s lies name t.sends; answer = a }

-- an operation on the token of a name, by what is known of it; of a name that isn't known the answer is this
abbrev pub operation_rule : ℕ → NodeState → (ℕ → Place) → Operation → NodeAnswer → ℕ → Option Known → Reaction
operation_rule me s lies a unknown name None = only unknown
operation_rule me s lies a unknown name (Some k) = after_operation s lies name k (operation_answer me a (share_of k)) (transition_of me a (share_of k))

-- ## commands

-- what a command is about: the token of an object, the fields of one, a new object, or none of them
pub data About : Type 0 where
  Token : (a : Operation) (on : Operand) → About
  Fields : (on : Operand) → About
  Making : About
  Nothing : About

abbrev pub about : Command → About
about (command.New register bunch size) = Making
about (command.Copy register value) = Nothing
about (command.Drop register) = Nothing
about (command.Read on) = Token (Acquires mode.Read) on
about (command.Write on) = Token (Acquires mode.Write) on
about (command.Done on) = Token Releases on
about (command.Set on index value) = Fields on
about (command.Add on index by) = Fields on
about (command.Get register on index) = Fields on
about (command.Show on index) = Fields on
about (command.Same left right) = Nothing

-- the node's next name
abbrev pub next_name : ℕ → NodeState → ℕ
next_name me s = name_word me (s.made + 1)

-- a new object: its maker owns it
abbrev pub new_object : ℕ → ℕ → Known
new_object bunch size = record { bunch = bunch; size = size; copy = Some (replicate size field.Null); part = owner_part }

-- a field of what is known holds the value
abbrev pub stored : ℕ → Option Known → ℕ → Val → List Change
stored name None index v = []
stored name (Some k) index v = Knows name (with_field index v k) ∷ []

-- what an effect of the graph changes at the node: its own copies and registers. What it holds changes by the
-- token's transitions alone
abbrev pub graph_changes : ℕ → NodeState → Effect → List Change
graph_changes me s graph_effect.Nothing = []
graph_changes me s (graph_effect.Makes register bunch size) =
    Knows (next_name me s) (new_object bunch size) ∷ Sets register (val.Ref (next_name me s)) ∷ Makes ∷ []
graph_changes me s (graph_effect.Sets register v) = Sets register v ∷ []
graph_changes me s (graph_effect.Stores name index v) = stored name (s.known name) index v
graph_changes me s (graph_effect.Holds name hold) = []

-- by the graph's answer: what is refused changes nothing, and these commands never wait
abbrev pub answered : List Change → Answer → Reaction
answered changes graph.Nil = record { changes = changes; drafts = []; answer = answer.Nil }
answered changes (graph.Value v) = record { changes = changes; drafts = []; answer = answer.Value v }
answered changes graph.Yes = record { changes = changes; drafts = []; answer = answer.Yes }
answered changes graph.No = record { changes = changes; drafts = []; answer = answer.No }
answered changes graph.Wait = only answer.Wait
answered changes (graph.Refused why) = refused why

-- a command as the graph does it, on the node's own copies
abbrev pub graph_rule : ℕ → NodeState → Command → Reaction
graph_rule me s c = answered (graph_changes me s (effect (seen_graph me s) me c)) (answer_of (seen_graph me s) me c)

-- on the token of what an operand means
abbrev pub token_rule : ℕ → NodeState → (ℕ → Place) → Operation → Option ℕ → Reaction
token_rule me s lies a None = refused refusal.Empty
token_rule me s lies a (Some name) = operation_rule me s lies a (answer.Refused refusal.Empty) name (s.known name)

-- the node knows what an operand means
abbrev pub knows : NodeState → Option ℕ → Bool
knows s None = false
knows s (Some name) = is_some (s.known name)

-- by what a command is about, at a node whose segments are full for a new object or not: an operand that is
-- no reference, or one to what the node doesn't know, is Empty
abbrev pub command_rule : ℕ → NodeState → Bool → (ℕ → Place) → Command → About → Reaction
command_rule me s full lies c (Token a on) = token_rule me s lies a (target_of (seen_graph me s) me on)
command_rule me s full lies c (Fields on) =
    if knows s (target_of (seen_graph me s) me on) then graph_rule me s c else refused refusal.Empty
command_rule me s full lies c Making = if full then refused refusal.Full else graph_rule me s c
command_rule me s full lies c Nothing = graph_rule me s c

abbrev pub do_rule : ℕ → NodeState → Bool → (ℕ → Place) → Command → Reaction
do_rule me s full lies c = command_rule me s full lies c (about c)

-- ## serving

abbrev pub serve_rule : ℕ → NodeState → (ℕ → Place) → ℕ → Reaction
serve_rule me s lies name = operation_rule me s lies Serves answer.Idle name (s.known name)

-- ## taking a letter

-- the fields of a copy after a message: what a grant brings, or what there was
abbrev pub copy_after : Msg → Option Known → Option (List ViewField)
copy_after m k = option_map_or (λ (g : Info × List Field). Some (map heard_field g.1)) (grant_in m) (option_map_or (λ (j : Known). j.copy) k None)

-- the record of who hands an object over
abbrev pub got_change : ℕ → ℕ → ℕ → Note → List Change
got_change from seq name (Asks m asker) = []
got_change from seq name (Grants mode.Read) = []
got_change from seq name (Grants mode.Write) = Gets name from seq ∷ []
got_change from seq name Recalls = []
got_change from seq name Returns = []

-- by the transition of the token: a stray letter changes nothing; of another the Infos are heard, and it is taken
abbrev pub took : NodeState → (ℕ → Place) → ℕ → ℕ → Msg → Option Known → Option Transition → Reaction
took s lies from seq m k None = only answer.Stray
took s lies from seq m k (Some t) = record {
  changes =
      map (Hears from) (infos m)
      ++ (known_change (name_in m) k (copy_after m k) t.after ++ (got_change from seq (name_in m) (note_in m) ++ Takes from ∷ []));
  drafts = drafts_of s lies (name_in m) t.sends;
  answer = answer.Nil;
}

-- letter number seq from a node
abbrev pub take_rule : ℕ → NodeState → (ℕ → Place) → ℕ → ℕ → Msg → Reaction
take_rule me s lies from seq m =
    took s lies from seq m (s.known (name_in m)) (note_transition me from (note_in m) (option_map share_of (s.known (name_in m))))
