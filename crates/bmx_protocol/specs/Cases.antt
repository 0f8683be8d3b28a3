-- Runs of nodes worked by hand, each closed by computing: what nodes do, and at each step the stamp, the
-- answer and the letters.
use Rattle.std.specs.Prelude.{◌≡◌, ℕ, ◌+◌, ◌*◌, ◌^◌, ◌==◌, pos, if◌then◌else◌, List, [], ◌∷◌, ◌++◌, map, replicate, Some, None, unwrap_or, true, false, refl}
use Rattle.std.specs.Option.{option_map, option_map_or}
use Rattle.bmx_types.specs.declared.values.Val.TheVariants as val
use Rattle.bmx_types.specs.Words.{address_word}
use Rattle.bmx_types.specs.declared.addresses.Info.{Info}
use Rattle.bmx_types.specs.declared.commands.Operand.{Operand}
use Rattle.bmx_types.specs.declared.commands.Operand.TheVariants as operand
use Rattle.bmx_types.specs.declared.commands.Command.{Command}
use Rattle.bmx_types.specs.declared.commands.Command.TheVariants as command
use Rattle.bmx_types.specs.Updates.{put}
use Rattle.bmx_msg.specs.declared.letters.Field.TheVariants as msg_field
use Rattle.bmx_msg.specs.declared.letters.Msg.{Msg}
use Rattle.bmx_msg.specs.declared.letters.Msg.TheVariants as msg
use Rattle.bmx_msg.specs.declared.letters.Letter.{Letter}
use Rattle.bmx_token.specs.Tokens.{child_part}
use Rattle.bmx_protocol.specs.declared.inputs.Input.{Input}
use Rattle.bmx_protocol.specs.declared.inputs.Input.TheVariants as input
use Rattle.bmx_protocol.specs.declared.inputs.NodeAnswer.{NodeAnswer}
use Rattle.bmx_protocol.specs.declared.inputs.NodeAnswer.TheVariants as answer
use Rattle.bmx_protocol.specs.declared.inputs.Sending.{Sending}
use Rattle.bmx_protocol.specs.declared.events.Event.{Event}
use Rattle.bmx_types.specs.declared.numbers.Mode.TheVariants as mode
use Rattle.bmx_protocol.specs.Nodes.{Known, Setting}
use Rattle.bmx_protocol.specs.Places.{Places, with_all_learnt}
use Rattle.bmx_protocol.specs.Rules.{Reaction, infos}
use Rattle.bmx_protocol.specs.Strays.{some_clash}
use Rattle.bmx_protocol.specs.Steps.{Node, first_node, command_in, letter_in, Told, nowhere, finds_full, rule, done_of, closed, made_places, is_nil, is_taken, stamp_after}
use Rattle.bmx_protocol.specs.Histories.{in_flight}

-- ## running

-- what comes next: a node does a command or serves a name, or takes the next letter from another
pub data Move : Type 0 where
  Do : ℕ → Command → Move
  Serve : ℕ → ℕ → Move
  Next : (from to : ℕ) → Move

-- the node that moves
abbrev pub mover : Move → ℕ
mover (Do n c) = n
mover (Serve n name) = n
mover (Next from to) = to

-- its input: of letters the first that is in flight
abbrev pub input_of : List Event → Move → Input
input_of past (Do n c) = input.Do c
input_of past (Serve n name) = input.Serve name
input_of past (Next from to) = first (in_flight from to past)
  where
    first : List Letter → Input
    first [] = input.Serve 0
    first (l ∷ letters) = input.Take from l

-- the stamp of a node after events
abbrev pub stamp_of : ℕ → ℕ → List Event → ℕ
stamp_of n stamp [] = stamp
stamp_of n stamp (e ∷ events) = stamp_of n (if e.node == n then e.stamp else stamp) events

-- what its rule is told
abbrev pub told_at : Setting → ℕ → Node → Input → Told
told_at st me n i = record {
  full = option_map_or (finds_full st n.places) (command_in i) false;
  clash = option_map_or (λ (l : ℕ × Letter). some_clash me l.0 n.state.known n.places (infos l.1.msg)) (letter_in i) false;
  lies = λ name. unwrap_or (n.places.place name) nowhere;
}

-- the places after an input
abbrev pub places_after : ℕ → Node → Input → NodeAnswer → Places
places_after me n (input.Do c) a = if is_nil a then made_places me n c else n.places
places_after me n (input.Serve name) a = n.places
places_after me n (input.Take from l) a = if is_taken a then with_all_learnt n.places (infos l.msg) else n.places

-- nodes and what has happened
pub record Play : Type 0 where
  pub nodes : ℕ → Node
  pub past : List Event

-- one step more
abbrev pub with_outcome : Play → ℕ → ℕ → Input → Reaction → Play
with_outcome p me stamp i o = record {
  nodes = put p.nodes me (record { state = closed stamp (p.nodes me).state o; places = places_after me (p.nodes me) i o.answer });
  past = p.past ++ record { node = me; stamp = stamp; input = i; done = done_of stamp (p.nodes me).state o } ∷ [];
}

abbrev pub with_input : Setting → Play → ℕ → Input → Play
with_input st p me i =
    with_outcome p me (stamp_after (stamp_of me 0 p.past) i) i (rule st me (p.nodes me).state (told_at st me (p.nodes me) i) i)

abbrev pub play : Setting → Play → List Move → Play
play st p [] = p
play st p (m ∷ moves) = play st (with_input st p (mover m) (input_of p.past m)) moves

-- from the opening
abbrev pub played : Setting → List Move → Play
played st moves = play st (record { nodes = first_node st; past = [] }) moves

-- what is said of an event: its stamp, its answer and its letters
abbrev pub said_of : Event → ℕ × NodeAnswer × List Sending
said_of e = (e.stamp, e.done.answer, e.done.letters)

-- a move is to have this stamp, this answer and these letters
pub record Line : Type 0 where
  pub move : Move
  pub said : ℕ × NodeAnswer × List Sending

abbrev line : Move → ℕ → NodeAnswer → List Sending → Line
line m stamp a letters = record { move = m; said = (stamp, a, letters) }

-- letter number seq of a stamp
abbrev letter : ℕ → ℕ → ℕ → Msg → Sending
letter to seq stamp m = record { to = to; letter = record { seq = seq; stamp = stamp; msg = m } }

-- the moves of the lines are answered so
abbrev pub Says : Setting → List Line → Type 0
Says st lines = map said_of (played st (map (λ l. l.move) lines)).past ≡ map (λ l. l.said) lines

-- so many nodes and one bunch, whose anchor is 0.1
abbrev pub one_bunch : ℕ → Setting
one_bunch nodes = record {
  nodes = nodes;
  limit = 65535;
  births = record { name = 1; bunch = 0; fields = replicate 32 val.Null } ∷ [];
}

abbrev pub r0 : Operand
r0 = operand.Register 0

abbrev pub anchor : Operand
anchor = operand.Anchor 0

-- the anchor at the start of segment 1 of node 0, and behind it 0.2 with one field
abbrev pub the_anchor : Info
the_anchor = record { name = 1; bunch = 0; size = 32; place = record { address = 0x100000000; moves = 0 } }

abbrev pub the_object : Info
the_object = record { name = 2; bunch = 0; size = 1; place = record { address = 0x100000024; moves = 0 } }

-- node 1 reads 0.1 and 0.2 of node 0
one_reader : Says (one_bunch 2) (
    line (Do 0 (command.New 0 0 1)) 1 answer.Nil []
    ∷ line (Do 0 (command.Write r0)) 2 answer.Nil []
    ∷ line (Do 0 (command.Set r0 0 (operand.Int (pos 42)))) 3 answer.Nil []
    ∷ line (Do 0 (command.Done r0)) 4 answer.Nil []
    ∷ line (Do 0 (command.Write anchor)) 5 answer.Nil []
    ∷ line (Do 0 (command.Set anchor 0 r0)) 6 answer.Nil []
    ∷ line (Do 0 (command.Done anchor)) 7 answer.Nil []
    ∷ line (Do 1 (command.Read anchor)) 1 answer.Wait (letter 0 1 1 (msg.ReadReq 1 1) ∷ [])
    ∷ line (Next 1 0) 8 answer.Nil []
    ∷ line (Serve 0 1) 9 answer.Nil (letter 1 1 9 (msg.ReadGrant the_anchor (msg_field.Ref the_object ∷ replicate 31 msg_field.Null)) ∷ [])
    ∷ line (Next 0 1) 10 answer.Nil []
    ∷ line (Do 1 (command.Read anchor)) 11 answer.Nil []
    ∷ line (Do 1 (command.Get 0 anchor 0)) 12 (answer.Value (val.Ref 2)) []
    ∷ line (Do 1 (command.Show anchor 0)) 13 (answer.Value (val.Ref 2)) []
    ∷ line (Do 1 (command.Done anchor)) 14 answer.Nil []
    ∷ line (Do 1 (command.Read r0)) 15 answer.Wait (letter 0 2 15 (msg.ReadReq 2 1) ∷ [])
    ∷ line (Next 1 0) 16 answer.Nil []
    ∷ line (Serve 0 2) 17 answer.Nil (letter 1 2 17 (msg.ReadGrant the_object (msg_field.Int (pos 42) ∷ [])) ∷ [])
    ∷ line (Next 0 1) 18 answer.Nil []
    ∷ line (Do 1 (command.Read r0)) 19 answer.Nil []
    ∷ line (Do 1 (command.Show r0 0)) 20 (answer.Value (val.Int (pos 42))) []
    ∷ line (Do 1 (command.Done r0)) 21 answer.Nil []
    ∷ [])
one_reader = refl

-- nodes 2 and 3 read 0.1 and 0.2 of node 0; node 1 writes 0.2 once both have given it up; then node 0
-- writes it, and nodes 2 and 3 read it again
two_readers_and_a_writer : Says (one_bunch 4) (
    line (Do 0 (command.New 0 0 1)) 1 answer.Nil []
    ∷ line (Do 0 (command.Write r0)) 2 answer.Nil []
    ∷ line (Do 0 (command.Set r0 0 (operand.Int (pos 42)))) 3 answer.Nil []
    ∷ line (Do 0 (command.Done r0)) 4 answer.Nil []
    ∷ line (Do 0 (command.Write anchor)) 5 answer.Nil []
    ∷ line (Do 0 (command.Set anchor 0 r0)) 6 answer.Nil []
    ∷ line (Do 0 (command.Done anchor)) 7 answer.Nil []
    ∷ line (Do 2 (command.Read anchor)) 1 answer.Wait (letter 0 1 1 (msg.ReadReq 1 2) ∷ [])
    ∷ line (Next 2 0) 8 answer.Nil []
    ∷ line (Serve 0 1) 9 answer.Nil (letter 2 1 9 (msg.ReadGrant the_anchor (msg_field.Ref the_object ∷ replicate 31 msg_field.Null)) ∷ [])
    ∷ line (Next 0 2) 10 answer.Nil []
    ∷ line (Do 2 (command.Read anchor)) 11 answer.Nil []
    ∷ line (Do 2 (command.Get 0 anchor 0)) 12 (answer.Value (val.Ref 2)) []
    ∷ line (Do 2 (command.Done anchor)) 13 answer.Nil []
    ∷ line (Do 2 (command.Read r0)) 14 answer.Wait (letter 0 2 14 (msg.ReadReq 2 2) ∷ [])
    ∷ line (Next 2 0) 15 answer.Nil []
    ∷ line (Serve 0 2) 16 answer.Nil (letter 2 2 16 (msg.ReadGrant the_object (msg_field.Int (pos 42) ∷ [])) ∷ [])
    ∷ line (Next 0 2) 17 answer.Nil []
    ∷ line (Do 2 (command.Read r0)) 18 answer.Nil []
    ∷ line (Do 2 (command.Show r0 0)) 19 (answer.Value (val.Int (pos 42))) []
    ∷ line (Do 2 (command.Done r0)) 20 answer.Nil []
    ∷ line (Do 3 (command.Read anchor)) 1 answer.Wait (letter 0 1 1 (msg.ReadReq 1 3) ∷ [])
    ∷ line (Next 3 0) 17 answer.Nil []
    ∷ line (Serve 0 1) 18 answer.Nil (letter 3 1 18 (msg.ReadGrant the_anchor (msg_field.Ref the_object ∷ replicate 31 msg_field.Null)) ∷ [])
    ∷ line (Next 0 3) 19 answer.Nil []
    ∷ line (Do 3 (command.Read anchor)) 20 answer.Nil []
    ∷ line (Do 3 (command.Get 0 anchor 0)) 21 (answer.Value (val.Ref 2)) []
    ∷ line (Do 3 (command.Done anchor)) 22 answer.Nil []
    ∷ line (Do 3 (command.Read r0)) 23 answer.Wait (letter 0 2 23 (msg.ReadReq 2 3) ∷ [])
    ∷ line (Next 3 0) 24 answer.Nil []
    ∷ line (Serve 0 2) 25 answer.Nil (letter 3 2 25 (msg.ReadGrant the_object (msg_field.Int (pos 42) ∷ [])) ∷ [])
    ∷ line (Next 0 3) 26 answer.Nil []
    ∷ line (Do 3 (command.Read r0)) 27 answer.Nil []
    ∷ line (Do 3 (command.Show r0 0)) 28 (answer.Value (val.Int (pos 42))) []
    ∷ line (Do 3 (command.Done r0)) 29 answer.Nil []
    ∷ line (Do 1 (command.Read anchor)) 1 answer.Wait (letter 0 1 1 (msg.ReadReq 1 1) ∷ [])
    ∷ line (Next 1 0) 26 answer.Nil []
    ∷ line (Serve 0 1) 27 answer.Nil (letter 1 1 27 (msg.ReadGrant the_anchor (msg_field.Ref the_object ∷ replicate 31 msg_field.Null)) ∷ [])
    ∷ line (Next 0 1) 28 answer.Nil []
    ∷ line (Do 1 (command.Read anchor)) 29 answer.Nil []
    ∷ line (Do 1 (command.Get 0 anchor 0)) 30 (answer.Value (val.Ref 2)) []
    ∷ line (Do 1 (command.Done anchor)) 31 answer.Nil []
    ∷ line (Do 1 (command.Write r0)) 32 answer.Wait (letter 0 2 32 (msg.WriteReq 2 1) ∷ [])
    ∷ line (Next 1 0) 33 answer.Nil []
    ∷ line (Serve 0 2) 34 answer.Nil (letter 2 3 34 (msg.Inval 2) ∷ letter 3 3 34 (msg.Inval 2) ∷ [])
    ∷ line (Next 0 2) 35 answer.Nil (letter 0 3 35 (msg.InvAck 2) ∷ [])
    ∷ line (Next 2 0) 36 answer.Nil []
    ∷ line (Next 0 3) 35 answer.Nil (letter 0 3 35 (msg.InvAck 2) ∷ [])
    ∷ line (Next 3 0) 37 answer.Nil []
    ∷ line (Serve 0 2) 38 answer.Nil (letter 1 2 38 (msg.WriteGrant the_object (msg_field.Int (pos 42) ∷ [])) ∷ [])
    ∷ line (Next 0 1) 39 answer.Nil []
    ∷ line (Do 1 (command.Write r0)) 40 answer.Nil []
    ∷ line (Do 1 (command.Set r0 0 (operand.Int (pos 43)))) 41 answer.Nil []
    ∷ line (Do 1 (command.Done r0)) 42 answer.Nil []
    ∷ line (Do 0 (command.Write r0)) 39 answer.Wait (letter 1 3 39 (msg.WriteReq 2 0) ∷ [])
    ∷ line (Next 0 1) 43 answer.Nil []
    ∷ line (Serve 1 2) 44 answer.Nil (letter 0 3 44 (msg.WriteGrant the_object (msg_field.Int (pos 43) ∷ [])) ∷ [])
    ∷ line (Next 1 0) 45 answer.Nil []
    ∷ line (Do 0 (command.Write r0)) 46 answer.Nil []
    ∷ line (Do 0 (command.Add r0 0 (pos 1))) 47 answer.Nil []
    ∷ line (Do 0 (command.Done r0)) 48 answer.Nil []
    ∷ line (Do 2 (command.Read r0)) 36 answer.Wait (letter 0 4 36 (msg.ReadReq 2 2) ∷ [])
    ∷ line (Next 2 0) 49 answer.Nil []
    ∷ line (Serve 0 2) 50 answer.Nil (letter 2 4 50 (msg.ReadGrant the_object (msg_field.Int (pos 44) ∷ [])) ∷ [])
    ∷ line (Next 0 2) 51 answer.Nil []
    ∷ line (Do 2 (command.Read r0)) 52 answer.Nil []
    ∷ line (Do 2 (command.Show r0 0)) 53 (answer.Value (val.Int (pos 44))) []
    ∷ line (Do 2 (command.Done r0)) 54 answer.Nil []
    ∷ line (Do 3 (command.Read r0)) 36 answer.Wait (letter 0 4 36 (msg.ReadReq 2 3) ∷ [])
    ∷ line (Next 3 0) 51 answer.Nil []
    ∷ line (Serve 0 2) 52 answer.Nil (letter 3 4 52 (msg.ReadGrant the_object (msg_field.Int (pos 44) ∷ [])) ∷ [])
    ∷ line (Next 0 3) 53 answer.Nil []
    ∷ line (Do 3 (command.Read r0)) 54 answer.Nil []
    ∷ line (Do 3 (command.Show r0 0)) 55 (answer.Value (val.Int (pos 44))) []
    ∷ line (Do 3 (command.Done r0)) 56 answer.Nil []
    ∷ [])
two_readers_and_a_writer = refl

-- node 1 becomes the owner of 0.1, and then node 2; node 3's request goes from its parent 0 to 1 and from
-- there to 2
a_request_goes_along_two_parents : Says (one_bunch 4) (
    line (Do 1 (command.Write anchor)) 1 answer.Wait (letter 0 1 1 (msg.WriteReq 1 1) ∷ [])
    ∷ line (Next 1 0) 2 answer.Nil []
    ∷ line (Serve 0 1) 3 answer.Nil (letter 1 1 3 (msg.WriteGrant the_anchor (replicate 32 msg_field.Null)) ∷ [])
    ∷ line (Next 0 1) 4 answer.Nil []
    ∷ line (Do 1 (command.Write anchor)) 5 answer.Nil []
    ∷ line (Do 1 (command.Done anchor)) 6 answer.Nil []
    ∷ line (Do 2 (command.Write anchor)) 1 answer.Wait (letter 0 1 1 (msg.WriteReq 1 2) ∷ [])
    ∷ line (Next 2 0) 4 answer.Nil (letter 1 2 4 (msg.WriteReq 1 2) ∷ [])
    ∷ line (Next 0 1) 7 answer.Nil []
    ∷ line (Serve 1 1) 8 answer.Nil (letter 2 1 8 (msg.WriteGrant the_anchor (replicate 32 msg_field.Null)) ∷ [])
    ∷ line (Next 1 2) 9 answer.Nil []
    ∷ line (Do 2 (command.Write anchor)) 10 answer.Nil []
    ∷ line (Do 2 (command.Done anchor)) 11 answer.Nil []
    ∷ line (Do 3 (command.Read anchor)) 1 answer.Wait (letter 0 1 1 (msg.ReadReq 1 3) ∷ [])
    ∷ line (Next 3 0) 5 answer.Nil (letter 1 3 5 (msg.ReadReq 1 3) ∷ [])
    ∷ line (Next 0 1) 9 answer.Nil (letter 2 2 9 (msg.ReadReq 1 3) ∷ [])
    ∷ line (Next 1 2) 12 answer.Nil []
    ∷ line (Serve 2 1) 13 answer.Nil (letter 3 1 13 (msg.ReadGrant the_anchor (replicate 32 msg_field.Null)) ∷ [])
    ∷ line (Next 2 3) 14 answer.Nil []
    ∷ line (Do 3 (command.Read anchor)) 15 answer.Nil []
    ∷ [])
a_request_goes_along_two_parents = refl

-- ## what a grant leaves behind

-- 0.2 is stored in 0.1, and node 1 is granted 0.1
abbrev pub told_of_the_object : Play
told_of_the_object = played (one_bunch 2) (
    Do 0 (command.New 0 0 1) ∷ Do 0 (command.Write anchor) ∷ Do 0 (command.Set anchor 0 r0) ∷ Do 0 (command.Done anchor)
    ∷ Do 1 (command.Read anchor) ∷ Next 1 0 ∷ Serve 0 1 ∷ Next 0 1 ∷ [])

the_receiver_knows_the_name_in_the_field :
    (told_of_the_object.nodes 1).state.known 2 ≡ Some (record { bunch = 0; size = 1; copy = None; part = child_part 0 })
the_receiver_knows_the_name_in_the_field = refl

the_receiver_knows_where_it_lies : (told_of_the_object.nodes 1).places.place 2 ≡ Some (record { address = 0x100000024; moves = 0 })
the_receiver_knows_where_it_lies = refl

the_sender_has_a_record_of_the_object :
    (told_of_the_object.nodes 0).state.entering 1 1 ≡ Some (record { name = 1; bunch = 0; from = 1; sent = 1; got = 0 })
the_sender_has_a_record_of_the_object = refl

the_sender_has_a_record_of_the_name_in_the_field :
    (told_of_the_object.nodes 0).state.entering 2 1 ≡ Some (record { name = 2; bunch = 0; from = 1; sent = 1; got = 0 })
the_sender_has_a_record_of_the_name_in_the_field = refl

the_receiver_has_none : (told_of_the_object.nodes 1).state.entering 2 0 ≡ None
the_receiver_has_none = refl

-- 0.1 is handed over to node 1, which writes a record of its own
the_new_owner_has_a_record :
    ((played (one_bunch 2) (Do 1 (command.Write anchor) ∷ Next 1 0 ∷ Serve 0 1 ∷ Next 0 1 ∷ [])).nodes 1).state.entering 1 0
    ≡ Some (record { name = 1; bunch = 0; from = 0; sent = 0; got = 1 })
the_new_owner_has_a_record = refl

-- node 1 gets 0.1 to write it, and holds it while node 0's want to read it stands in its queue
abbrev pub written_by_its_taker : Play
written_by_its_taker = played (one_bunch 2) (
    Do 1 (command.Write anchor) ∷ Next 1 0 ∷ Serve 0 1 ∷ Next 0 1 ∷ Do 1 (command.Write anchor) ∷ Do 0 (command.Read anchor) ∷ Next 0 1 ∷ [])

the_taker_holds_it : option_map (λ (k : Known). k.part.held) ((written_by_its_taker.nodes 1).state.known 1) ≡ Some (Some mode.Write)
the_taker_holds_it = refl

the_other_waits_in_its_queue :
    option_map (λ (k : Known). k.part.queue) ((written_by_its_taker.nodes 1).state.known 1) ≡ Some (record { asker = 0; mode = mode.Read } ∷ [])
the_other_waits_in_its_queue = refl

-- a new object lies behind the last of its bunch: 0.2 of 32 fields behind 0.1
the_next_object_lies_behind :
    ((played (one_bunch 1) (Do 0 (command.New 0 0 32) ∷ [])).nodes 0).places.place 2 ≡ Some (record { address = 0x100000024; moves = 0 })
the_next_object_lies_behind = refl

-- ## stray letters

-- node 1 wants to read 0.1
abbrev wanting : Node
wanting = (played (one_bunch 2) (Do 1 (command.Read anchor) ∷ [])).nodes 1

-- what it answers to letter number seq of a stamp from a node
abbrev answer_to : ℕ → ℕ → ℕ → Msg → NodeAnswer
answer_to from seq stamp m =
    let i : Input = input.Take from (record { seq = seq; stamp = stamp; msg = m }) in
    (rule (one_bunch 2) 1 wanting.state (told_at (one_bunch 2) 1 wanting i) i).answer

-- it answers so to that message in the first letter from node 0
abbrev answer_to_first : Msg → NodeAnswer
answer_to_first m = answer_to 0 1 3 m

-- a grant of 0.1 whose first field refers to an object
abbrev grant_with : Info → Msg
grant_with info = msg.ReadGrant the_anchor (msg_field.Ref info ∷ replicate 31 msg_field.Null)

-- an object of one field, of bunch 0
abbrev object : ℕ → ℕ → ℕ → Info
object name address moves = record { name = name; bunch = 0; size = 1; place = record { address = address; moves = moves } }

what_is_wanted_is_taken : answer_to_first (grant_with the_object) ≡ answer.Nil
what_is_wanted_is_taken = refl

from_itself : answer_to 1 1 3 (grant_with the_object) ≡ answer.Stray
from_itself = refl

from_no_node : answer_to 2 1 3 (grant_with the_object) ≡ answer.Stray
from_no_node = refl

another_number : answer_to 0 2 3 (grant_with the_object) ≡ answer.Stray
another_number = refl

too_large_a_stamp : answer_to 0 1 (2 ^ 62) (grant_with the_object) ≡ answer.Stray
too_large_a_stamp = refl

too_many_moves : answer_to_first (grant_with (object 2 0x100000024 (2 ^ 62))) ≡ answer.Stray
too_many_moves = refl

an_asker_that_is_no_node : answer_to_first (msg.ReadReq 1 2) ≡ answer.Stray
an_asker_that_is_no_node = refl

no_such_bunch : answer_to_first (grant_with (record (the_object) { bunch = 1 })) ≡ answer.Stray
no_such_bunch = refl

a_maker_that_is_no_node : answer_to_first (grant_with (object (2 * 2 ^ 56 + 1) 0x100000024 0)) ≡ answer.Stray
a_maker_that_is_no_node = refl

an_own_name_not_made : answer_to_first (grant_with (object (2 ^ 56 + 1) 0x100000024 0)) ≡ answer.Stray
an_own_name_not_made = refl

too_many_fields : answer_to_first (grant_with (record (the_object) { size = 33 })) ≡ answer.Stray
too_many_fields = refl

a_field_too_few : answer_to_first (msg.ReadGrant the_anchor (replicate 31 msg_field.Null)) ≡ answer.Stray
a_field_too_few = refl

another_size : answer_to_first (msg.ReadGrant (record (the_anchor) { size = 31 }) (replicate 31 msg_field.Null)) ≡ answer.Stray
another_size = refl

-- the words of 0.1 are taken, and words of node 1's own weren't handed out
within_another_object : answer_to_first (grant_with (object 2 0x100000023 0)) ≡ answer.Stray
within_another_object = refl

in_own_words_not_handed_out : answer_to_first (grant_with (object 2 (address_word 1 1 0) 0)) ≡ answer.Stray
in_own_words_not_handed_out = refl

-- it has moved, to where it lay
moved_to_its_own_place :
    answer_to_first (msg.ReadGrant (record (the_anchor) { place = record { address = 0x100000000; moves = 1 } }) (replicate 32 msg_field.Null))
    ≡ answer.Stray
moved_to_its_own_place = refl

-- two fields tell of one new object that it has one field, and two
two_sizes_in_one_letter :
    answer_to_first (msg.ReadGrant the_anchor (msg_field.Ref the_object ∷ msg_field.Ref (record (the_object) { size = 2 }) ∷ replicate 30 msg_field.Null))
    ≡ answer.Stray
two_sizes_in_one_letter = refl

-- a grant that nobody wants, and an acknowledgement to a node that doesn't own
a_write_that_is_not_wanted : answer_to_first (msg.WriteGrant the_anchor (replicate 32 msg_field.Null)) ≡ answer.Stray
a_write_that_is_not_wanted = refl

an_acknowledgement_to_no_owner : answer_to_first (msg.InvAck 1) ≡ answer.Stray
an_acknowledgement_to_no_owner = refl

-- an object that it doesn't know it has no copy of
an_invalidation_of_an_unknown_object_is_taken : answer_to_first (msg.Inval 2) ≡ answer.Nil
an_invalidation_of_an_unknown_object_is_taken = refl

a_request_for_an_unknown_object : answer_to_first (msg.ReadReq 2 0) ≡ answer.Stray
a_request_for_an_unknown_object = refl

-- ## what a rule is told

-- a store of one segment, with its anchor and 27 objects of 32 fields: 16 words are left
abbrev one_segment : Setting
one_segment = record (one_bunch 1) { limit = 1 }

abbrev filled : Play
filled = played one_segment (replicate 27 (Do 0 (command.New 0 0 32)))

a_larger_object_is_told_to_find_no_segment : (told_at one_segment 0 (filled.nodes 0) (input.Do (command.New 1 0 13))).full ≡ true
a_larger_object_is_told_to_find_no_segment = refl

a_smaller_one_finds_room : (told_at one_segment 0 (filled.nodes 0) (input.Do (command.New 1 0 12))).full ≡ false
a_smaller_one_finds_room = refl

no_other_command_is_full : (told_at one_segment 0 (filled.nodes 0) (input.Do (command.Read anchor))).full ≡ false
no_other_command_is_full = refl

-- an Info whose place is taken clashes, and one whose place is free doesn't
abbrev told_of : Info → Told
told_of info = told_at (one_bunch 2) 1 wanting (input.Take 0 (record { seq = 1; stamp = 3; msg = grant_with info }))

a_taken_place_clashes : (told_of (object 2 0x100000023 0)).clash ≡ true
a_taken_place_clashes = refl

a_free_place_does_not : (told_of the_object).clash ≡ false
a_free_place_does_not = refl
