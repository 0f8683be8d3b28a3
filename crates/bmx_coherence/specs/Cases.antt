-- Runs worked by hand, as the graph sees them, and the same with one outcome changed. Each is closed by computing.
use Rattle.std.specs.Prelude.{◌≡◌, ℕ, zero, suc, List, [], ◌∷◌, replicate, slice_get, Some, refl}
use Rattle.std.specs.Option.{option_map}
use Rattle.bmx_types.specs.declared.values.Val.TheVariants as val
use Rattle.bmx_types.specs.declared.commands.Command.{Command}
use Rattle.bmx_types.specs.declared.commands.Command.TheVariants as command
use Rattle.bmx_types.specs.declared.commands.Refusal.TheVariants as refusal
use Rattle.bmx_types.specs.declared.numbers.Mode.TheVariants as mode
use Rattle.bmx_graph.specs.Step.{Act}
use Rattle.bmx_graph.specs.declared.answers.Answer.{Answer}
use Rattle.bmx_graph.specs.declared.answers.Answer.TheVariants as graph
use Rattle.bmx_msg.specs.declared.letters.Field.TheVariants as msg_field
use Rattle.bmx_msg.specs.declared.letters.Msg.TheVariants as msg
use Rattle.bmx_protocol.specs.declared.inputs.NodeAnswer.{NodeAnswer}
use Rattle.bmx_protocol.specs.declared.inputs.NodeAnswer.TheVariants as answer
use Rattle.bmx_protocol.specs.declared.inputs.Sending.{Sending}
use Rattle.bmx_protocol.specs.declared.events.Event.{Event}
use Rattle.bmx_protocol.specs.Nodes.{Setting}
use Rattle.bmx_protocol.specs.Cases.{Play, Do, Serve, Next, played, one_bunch, anchor, r0, the_anchor, told_of_the_object, written_by_its_taker}
use Rattle.bmx_coherence.specs.Graphs.{acts_of, graph_after}

abbrev pub store : Setting
store = one_bunch 2

abbrev act : ℕ → Command → Answer → Act
act n c a = record { node = n; command = c; answer = a }

-- node 1 waits for the anchor and then holds it, and node 0 waits
its_commands : acts_of written_by_its_taker.past ≡
    act 1 (command.Write anchor) graph.Wait ∷ act 1 (command.Write anchor) graph.Nil ∷ act 0 (command.Read anchor) graph.Wait ∷ []
its_commands = refl

who_holds_it : (graph_after store written_by_its_taker.past).held 1 1 ≡ Some mode.Write
who_holds_it = refl

-- what node 0 stored
what_it_refers_to : option_map (λ fields. slice_get fields 0) ((graph_after store told_of_the_object.past).object 1) ≡ Some (Some (val.Ref 2))
what_it_refers_to = refl

-- ## with one outcome changed

-- an event with another answer, or other letters
abbrev pub with_answer : NodeAnswer → Event → Event
with_answer a e = record e { done = record (e.done) { answer = a } }

abbrev pub with_letters : List Sending → Event → Event
with_letters letters e = record e { done = record (e.done) { letters = letters } }

-- event i of a history changes, from 0
abbrev pub changed_at : ℕ → (Event → Event) → List Event → List Event
changed_at i change [] = []
changed_at zero change (e ∷ events) = change e ∷ events
changed_at (suc i) change (e ∷ events) = e ∷ changed_at i change events

-- a node reads what another holds for writing
abbrev pub read_while_written : List Event
read_while_written = changed_at 5 (with_answer answer.Nil) written_by_its_taker.past

-- the object that is stored was never made
abbrev pub never_made : List Event
never_made = changed_at 0 (with_answer (answer.Refused refusal.Full)) told_of_the_object.past

-- a grant of the anchor is in flight to node 1
abbrev pub granted : Play
granted = played store (
    Do 0 (command.New 0 0 1) ∷ Do 0 (command.Write anchor) ∷ Do 0 (command.Set anchor 0 r0) ∷ Do 0 (command.Done anchor)
    ∷ Do 1 (command.Read anchor) ∷ Next 1 0 ∷ Serve 0 1 ∷ [])

-- and brings the fields that the anchor had before
abbrev pub old_fields : Sending
old_fields = record { to = 1; letter = record { seq = 1; stamp = 6; msg = msg.ReadGrant the_anchor (replicate 32 msg_field.Null) } }

abbrev pub granted_of_old : List Event
granted_of_old = changed_at 6 (with_letters (old_fields ∷ [])) granted.past

-- node 1 is to wait for the anchor, and its request isn't sent
abbrev pub waiting : Play
waiting = played store (Do 1 (command.Write anchor) ∷ [])

abbrev pub never_asked : List Event
never_asked = changed_at 0 (with_letters []) waiting.past
