-- What came of a reaction, and the parts of reactions that private functions do.
use Rattle.std.specs.Prelude.{◌≡◌, ℕ, Bool, true, false, List, unwrap_or}
use Rattle.std.specs.List.{flat_map}
use Rattle.bmx_types.specs.declared.addresses.Place.{Place}
use Rattle.bmx_types.specs.declared.addresses.Info.{Info}
use Rattle.bmx_types.specs.declared.numbers.Mode.{Mode}
use Rattle.bmx_types.specs.declared.commands.Operand.{Operand}
use Rattle.bmx_types.specs.declared.commands.Command.{Command}
use Rattle.bmx_msg.specs.declared.letters.Field.{Field}
use Rattle.bmx_msg.specs.declared.letters.Msg.{Msg}
use Rattle.bmx_token.specs.Transitions.{Operation}
use Rattle.bmx_graph.specs.Step.{target_of}
use Rattle.bmx_graph.specs.declared.answers.Answer.{Answer}
use Rattle.bmx_protocol.specs.declared.inputs.Input.{Input}
use Rattle.bmx_protocol.specs.declared.inputs.NodeAnswer.{NodeAnswer}
use Rattle.bmx_protocol.specs.declared.inputs.Sending.{Sending}
use Rattle.bmx_protocol.specs.declared.inputs.Done.{Done}
use Rattle.bmx_protocol.specs.Nodes.{Setting, NodeState, seen_graph}
use Rattle.bmx_protocol.specs.Places.{is_full}
use Rattle.bmx_protocol.specs.Changes.{after_changes}
use Rattle.bmx_protocol.specs.Rules.{Draft, Reaction, operation_rule, About, Token, Fields, Making, Nothing, about, token_rule, take_rule}
use Rattle.bmx_protocol.specs.Steps.{Told, IsTold, rule, numbered, sent_changes, changes_of, done_of, nowhere, MovesTo}
use Rattle.bmx_memory.specs.Shown.{Shown}
use Rattle.bmx_mail.specs.Mails.{issued_of}
use Rattle.bmx_node.specs.declared.holdings.Holdings.{Holdings}
use Rattle.bmx_node.specs.Seen.{state_of, places_of, node_of}
use Rattle.bmx_types.specs.declared.numbers.Mode.TheVariants as mode
use Rattle.bmx_types.specs.declared.commands.Command.TheVariants as command
use Rattle.bmx_graph.specs.declared.answers.Answer.TheVariants as graph
use Rattle.bmx_protocol.specs.declared.inputs.NodeAnswer.TheVariants as answer
use Rattle.bmx_msg.specs.declared.letters.Msg.TheVariants as msg

-- a reaction at a stamp led to an outcome and a state
pub record Reacts (stamp : ℕ) (s : NodeState) (r : Reaction) (outcome : Done) (t : NodeState) : Type 0 where
  pub done : outcome ≡ done_of stamp s r
  pub state : t ≡ after_changes s (changes_of stamp s r)

-- where the object of a name lies, as rules are told it
abbrev pub lies_at : Holdings → ℕ → Place
lies_at h name = unwrap_or ((places_of h).place name) nowhere

-- a reaction of holdings that leaves objects where they lie
pub record Does (stamp : ℕ) (old : Holdings) (r : Reaction) (done : Done) (new : Holdings) : Type 0 where
  pub reacts : Reacts stamp (state_of old) r done (state_of new)
  pub places : places_of new ≡ places_of old

-- the letters of drafts were issued, and the mail follows
pub record Issued (stamp : ℕ) (old : Holdings) (drafts : List Draft) (sent : List Sending) (new : Holdings) : Type 0 where
  pub letters : sent ≡ numbered (issued_of old.mail) stamp drafts
  pub state : state_of new ≡ after_changes (state_of old) (flat_map sent_changes sent)

-- an operation on the token of a name
abbrev pub operation_on : Holdings → Operation → NodeAnswer → ℕ → Reaction
operation_on h a unknown name = operation_rule h.me (state_of h) (lies_at h) a unknown name ((state_of h).known name)

-- a note of a letter from a node
abbrev pub letter_on : Holdings → ℕ → ℕ → Msg → Reaction
letter_on h from seq m = take_rule h.me (state_of h) (lies_at h) from seq m

-- the message that asks for a token
abbrev pub request_msg : ℕ → ℕ → Mode → Msg
request_msg name asker mode.Read = msg.ReadReq name asker
request_msg name asker mode.Write = msg.WriteReq name asker

-- the graph's answer as a node's
abbrev pub node_answer : Answer → NodeAnswer
node_answer graph.Nil = answer.Nil
node_answer (graph.Value v) = answer.Value v
node_answer graph.Yes = answer.Yes
node_answer graph.No = answer.No
node_answer graph.Wait = answer.Wait
node_answer (graph.Refused why) = answer.Refused why

-- a command for whose new object there is no segment
abbrev pub lacks_room : Shown → Command → Bool
lacks_room m (command.New register bunch size) = is_full m.limit m.places bunch size
lacks_room m c = false

-- the message that grants the token of a name
abbrev pub grant_msg : Mode → Info → List Field → Msg
grant_msg mode.Read info fields = msg.ReadGrant info fields
grant_msg mode.Write info fields = msg.WriteGrant info fields

-- an operation on the token of what an operand means
abbrev pub token_on : Holdings → Operation → Operand → Reaction
token_on h a on = token_rule h.me (state_of h) (lies_at h) a (target_of (seen_graph h.me (state_of h)) h.me on)

-- a command takes a token or gives it back
abbrev pub touches_token : Command → Bool
touches_token c = is_token (about c)
  where
    is_token : About → Bool
    is_token (Token a on) = true
    is_token (Fields on) = false
    is_token Making = false
    is_token Nothing = false

-- a step that isn't counted yet: some places tell this, the outcome and the state are those of the rule, and so are
-- the places
pub record IsReaction (st : Setting) (stamp : ℕ) (old : Holdings) (i : Input) (outcome : Done) (new : Holdings) : Type 0 where
  pub told : Told
  pub is_told : IsTold st old.me (node_of old) i told
  pub reacts : Reacts stamp (state_of old) (rule st old.me (state_of old) told i) outcome (state_of new)
  pub places : MovesTo old.me (node_of old) told i outcome.answer (places_of new)
