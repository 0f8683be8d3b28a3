-- What a node keeps of its letters, as a part of its state: the records and the counts; and how they follow the
-- changes of a state.
use Rattle.std.specs.Prelude.{◌≡◌, ℕ, ◌+◌, ◌^◌, ◌<◌, List, [], ◌∷◌, filter_map, Option, slice_index, refl}
use Rattle.std.specs.Option.{option_map_or}
use Rattle.std.specs.List.{fold}
use Rattle.bmx_types.specs.declared.addresses.Info.{Info}
use Rattle.bmx_msg.specs.declared.letters.Field.TheVariants.{Ref}
use Rattle.bmx_msg.specs.declared.letters.Msg.{Msg}
use Rattle.bmx_msg.specs.declared.letters.Msg.TheVariants.{ReadReq, WriteReq, ReadGrant, WriteGrant, Inval, InvAck}
use Rattle.bmx_owner.specs.declared.entering.Record.{Record}
use Rattle.bmx_owner.specs.Records as owner
use Rattle.bmx_protocol.specs.declared.inputs.Sending.{Sending}
use Rattle.bmx_protocol.specs.Nodes.{NodeState}
use Rattle.bmx_protocol.specs.Changes.{Change, after_changes}
use Rattle.bmx_protocol.specs.Rules.{info_in, infos}

-- what contracts see of a node's mail: the entering records in order, how many more can be kept without memory, and
-- how many letters were issued to each node and taken from it
pub record MailState : Type 0 where
  pub records : List Record
  pub spare : ℕ
  pub issued : List ℕ
  pub taken : List ℕ

-- what contracts see of an outbox: the stamp of its letters, the letters, and for how many more there is room
pub record OutboxState : Type 0 where
  pub stamp : ℕ
  pub letters : List Sending
  pub room : ℕ

-- ## a part of a node's state

-- the entering record of a name and a node
abbrev pub entering_of : MailState → ℕ → ℕ → Option Record
entering_of m = owner.find_record m.records

-- how many letters were issued to a node, and taken from it
abbrev pub issued_of : MailState → ℕ → ℕ
issued_of m node = slice_index m.issued node

abbrev pub taken_of : MailState → ℕ → ℕ
taken_of m node = slice_index m.taken node

-- a node's state with this mail
abbrev pub with_mail : NodeState → MailState → NodeState
with_mail s m = record s { entering = entering_of m; issued = issued_of m; taken = taken_of m }

-- the mail follows changes: it becomes that of the state after them, whatever the rest of the state is, so long as
-- that holds of it
abbrev pub Tracks : MailState → MailState → List Change → (NodeState → Type 0) → Type 0
Tracks old new changes Holds = (s : NodeState) → Holds s → after_changes (with_mail s old) changes ≡ with_mail s new

-- so many letters more to any node can be counted
abbrev pub CanIssue : MailState → ℕ → Type 0
CanIssue m more = (node : ℕ) → issued_of m node + more < 2 ^ 64

-- ## bunches

-- the bunch of the object of a name, as a node knows it
abbrev pub bunch_known : NodeState → ℕ → ℕ
bunch_known s name = option_map_or (λ k. k.bunch) (s.known name) 0

-- a node knows that bunch of the object of a name
abbrev pub KnowsBunch : ℕ → ℕ → NodeState → Type 0
KnowsBunch name bunch s = bunch_known s name ≡ bunch

-- what is told of objects has the bunches that the node knows
abbrev pub AreOfBunches : NodeState → List Info → Type 0
AreOfBunches s [] = Unit {0}
AreOfBunches s (info ∷ more) = KnowsBunch info.name info.bunch s × AreOfBunches s more

-- a message tells the bunches that the node knows
abbrev pub TellsBunches : NodeState → Msg → Type 0
TellsBunches s msg = AreOfBunches s (infos msg)

-- ## letters

-- what a message tells of the objects whose names it gives
abbrev pub given_infos : Msg → List Info
given_infos (ReadReq name asker) = []
given_infos (WriteReq name asker) = []
given_infos (ReadGrant info fields) = info ∷ filter_map info_in fields
given_infos (WriteGrant info fields) = filter_map info_in fields
given_infos (Inval name) = []
given_infos (InvAck name) = []

-- the records after letter number seq gave a node the names of objects
abbrev pub with_names_given : List Record → List Info → ℕ → ℕ → List Record
with_names_given records given to seq = fold (λ (rs : List Record) (info : Info). owner.given rs info.name info.bunch to seq) records given

-- a message as the next letter to a node, of a stamp
abbrev pub next_letter : MailState → ℕ → ℕ → Msg → Sending
next_letter m stamp to msg = record { to = to; letter = record { seq = issued_of m to + 1; stamp = stamp; msg = msg } }

-- ## cases

-- two letters were issued to node 1, and one was taken from node 2
abbrev pub some_mail : MailState
some_mail = record { records = []; spare = 9; issued = 0 ∷ 2 ∷ 0 ∷ []; taken = 0 ∷ 0 ∷ 1 ∷ [] }

each_has_its_count : (issued_of some_mail 1 ≡ 2) × (issued_of some_mail 2 ≡ 0) × (taken_of some_mail 2 ≡ 1)
each_has_its_count = (refl, refl, refl)

the_next_has_the_next_number : (next_letter some_mail 7 1 (Inval 5)).letter.seq ≡ 3
the_next_has_the_next_number = refl

-- name 5 of bunch 0, which refers to name 6 of bunch 1
abbrev pub told_of : ℕ → ℕ → Info
told_of name bunch = record { name = name; bunch = bunch; size = 1; place = record { address = 0; moves = 0 } }

a_read_gives_both : with_names_given [] (given_infos (ReadGrant (told_of 5 0) (Ref (told_of 6 1) ∷ []))) 1 3
    ≡ record { name = 5; bunch = 0; from = 1; sent = 3; got = 0 } ∷ record { name = 6; bunch = 1; from = 1; sent = 3; got = 0 } ∷ []
a_read_gives_both = refl

a_write_gives_its_targets : with_names_given [] (given_infos (WriteGrant (told_of 5 0) (Ref (told_of 6 1) ∷ []))) 1 3
    ≡ record { name = 6; bunch = 1; from = 1; sent = 3; got = 0 } ∷ []
a_write_gives_its_targets = refl

an_invalidation_gives_nothing : with_names_given [] (given_infos (Inval 5)) 1 3 ≡ []
an_invalidation_gives_nothing = refl
