-- One object's token over all nodes: what each node has of the object, the letters in flight with
-- what they say of it, and its entering records. Each step is of one node. What a node does with its
-- token is what bmx_token says.
use Rattle.std.specs.Prelude.{◌≡◌, ◌≢◌, ℕ, ◌+◌, max, Bool, true, false, ◌||◌, ◌&&◌, if◌then◌else◌, List, [], ◌∷◌, ◌++◌, map, Option, Some, None, unwrap_or}
use Rattle.std.specs.Option.{option_map, option_map_or}
use Rattle.bmx_types.specs.declared.numbers.Mode.TheVariants as mode
use Rattle.bmx_types.specs.Updates.{put, put_at}
use Rattle.bmx_token.specs.declared.parts.Part.{Part}
use Rattle.bmx_token.specs.declared.parts.Role.TheVariants.{Owner, Parent}
use Rattle.bmx_token.specs.Transitions.{Share, Note, Asks, Grants, Recalls, Returns, Send, Transition, Operation, transition_of, note_transition, made_share, heard_share}

-- a letter: its number among those from its sender to its receiver, the note on the object's token that it
-- has, if any, and whether it tells of the object besides, since a field that it brings refers to it
pub record Message : Type 0 where
  pub seq : ℕ
  pub note : Option Note
  pub tells : Bool

-- an entering record: the numbers of the last letters that gave the object, and that brought it over
pub record Numbers : Type 0 where
  pub sent : ℕ
  pub got : ℕ

-- the object over all nodes
pub record Object : Type 0 where
  -- what a node has of it, None where it has no entry
  pub holds : ℕ → Option Share
  -- the letters in flight from one node to another, in order
  pub channel : ℕ → ℕ → List Message
  -- the record of it at one node, of another
  pub entering : ℕ → ℕ → Option Numbers
  -- how many letters were issued from one node to another, and how many were taken at one from another
  pub issued : ℕ → ℕ → ℕ
  pub taken : ℕ → ℕ → ℕ

-- ## letters

-- a letter to a node, before it has a number
pub record Unnumbered : Type 0 where
  pub to : ℕ
  pub note : Option Note
  pub tells : Bool

-- the letter of a draft
abbrev pub numbered : ℕ → Unnumbered → Message
numbered seq d = record { seq = seq; note = d.note; tells = d.tells }

-- a note gives the object: its receiver is to know it, and isn't its owner
abbrev pub is_gift : Note → Bool
is_gift (Asks m asker) = false
is_gift (Grants mode.Read) = true
is_gift (Grants mode.Write) = false
is_gift Recalls = false
is_gift Returns = false

-- a note brings ownership
abbrev pub is_handover : Note → Bool
is_handover (Asks m asker) = false
is_handover (Grants mode.Read) = false
is_handover (Grants mode.Write) = true
is_handover Recalls = false
is_handover Returns = false

-- a note asks for the object
abbrev pub is_ask : Note → Bool
is_ask (Asks m asker) = true
is_ask (Grants m) = false
is_ask Recalls = false
is_ask Returns = false

-- a note grants the object, so that its letter brings the fields, which may refer to the object itself
abbrev pub is_grant : Note → Bool
is_grant n = is_gift n || is_handover n

-- a letter gives the object, brings its ownership, asks for it
abbrev pub gives : Option Note → Bool → Bool
gives note tells = option_map_or is_gift note false || tells

abbrev pub brings : Message → Bool
brings l = option_map_or is_handover l.note false

abbrev pub asks : Message → Bool
asks l = option_map_or is_ask l.note false

-- the draft of a note that is sent, where some field refers to the object or none
abbrev pub draft : Bool → Send → Unnumbered
draft refers s = record { to = s.to; note = Some s.note; tells = refers && is_grant s.note }

-- ## changes

-- a node has this of the object
abbrev pub with_holding : Object → ℕ → Option Share → Object
with_holding o me h = record o { holds = put o.holds me h }

-- a record of which no letter speaks yet
abbrev pub no_numbers : Numbers
no_numbers = record { sent = 0; got = 0 }

-- the record after letter number seq gave the object
abbrev pub sent_in : ℕ → Option Numbers → Numbers
sent_in seq r = let old : Numbers = unwrap_or r no_numbers in record old { sent = max old.sent seq }

-- the record after letter number seq brought ownership
abbrev pub got_in : ℕ → Option Numbers → Numbers
got_in seq r = let old : Numbers = unwrap_or r no_numbers in record old { got = max old.got seq }

-- a node issues a letter, with the next number to its receiver, and records that it gave the object
abbrev pub issue : Object → ℕ → Unnumbered → Object
issue o me d =
    let seq : ℕ = o.issued me d.to + 1 in
    record o {
      channel = put_at o.channel me d.to (o.channel me d.to ++ numbered seq d ∷ []);
      entering =
          if gives d.note d.tells then put_at o.entering me d.to (Some (sent_in seq (o.entering me d.to))) else o.entering;
      issued = put_at o.issued me d.to seq;
    }

-- a node issues letters, in order
abbrev pub issue_all : Object → ℕ → List Unnumbered → Object
issue_all o me [] = o
issue_all o me (d ∷ drafts) = issue_all (issue o me d) me drafts

-- the object after a node's transition, where some field refers to the object or none
abbrev pub moved : Object → ℕ → Bool → Transition → Object
moved o me refers t = issue_all (with_holding o me t.after) me (map (draft refers) t.sends)

-- node me has taken the first letter from a node, and others are still in flight
abbrev pub popped : Object → ℕ → ℕ → Message → List Message → Object
popped o from me l rest = record o {
  channel = put_at o.channel from me rest;
  entering =
      if brings l then put_at o.entering me from (Some (got_in l.seq (o.entering me from))) else o.entering;
  taken = put_at o.taken me from (o.taken me from + 1);
}

-- ## what a node makes of a letter

-- what a node has once it is told of the object, or not, by another
abbrev pub hears : Bool → ℕ → Option Share → Option Share
hears true from None = Some (heard_share from)
hears true from (Some h) = Some h
hears false from h = h

-- the transition by a note, where there is one
abbrev pub said_transition : ℕ → ℕ → Option Note → Option Share → Option Transition
said_transition me from None h = Some (record { after = h; sends = [] })
said_transition me from (Some n) h = note_transition me from n h

-- the transition of node me by a letter from a node: by its note, and then it hears of the object; None where it
-- is stray
abbrev pub letter_transition : ℕ → ℕ → Message → Option Share → Option Transition
letter_transition me from l h = option_map (λ (t : Transition). record t { after = hears l.tells from t.after }) (said_transition me from l.note h)

-- ## the steps of the model

-- a letter that says nothing of the object
pub record IsSilent (l : Message) : Type 0 where
  pub note : l.note ≡ None
  pub tells : l.tells ≡ false

-- the object is nowhere: no node has an entry, and no letter in flight speaks of it
pub record IsNowhere (o : Object) : Type 0 where
  pub unknown : (n : ℕ) → o.holds n ≡ None
  pub untold : (n m : ℕ) (l : Message) (before after : List Message) → o.channel n m ≡ before ++ l ∷ after → IsSilent l

-- ## what nothing needs

-- nothing happens about the token: it isn't held or wanted, nobody waits and nothing is owed
pub record IsIdle (p : Part) : Type 0 where
  pub held : p.held ≡ None
  pub want : p.want ≡ None
  pub due : p.due ≡ None
  pub queue : p.queue ≡ []
  pub waiting : p.waiting ≡ []

-- nothing needs what a node has of the object: nothing happens about its token there, it has no record of
-- another node, is nobody's parent, gives the object in no letter in flight and is asked in none; and where
-- it owns the object, the object is nowhere else
pub record IsUnneeded (o : Object) (me : ℕ) (h : Share) : Type 0 where
  pub idle : IsIdle h.part
  pub no_record : (m : ℕ) → o.entering me m ≡ None
  pub no_child : (m : ℕ) (k : Share) → o.holds m ≡ Some k → k.part.role ≢ Parent me
  pub no_gift : (m : ℕ) (l : Message) (before after : List Message) → o.channel me m ≡ before ++ l ∷ after → gives l.note l.tells ≡ false
  pub no_ask : (m : ℕ) (l : Message) (before after : List Message) → o.channel m me ≡ before ++ l ∷ after → asks l ≡ false
  pub alone : h.part.role ≡ Owner → IsNowhere (with_holding o me None)

-- nothing needs the record at a node of another: the other's parent is not this node, but where ownership is
-- in flight here; no letter in flight there gives the object; and a request in flight from there has a
-- grant of ownership in front
pub record IsUnneededRecord (o : Object) (me other : ℕ) : Type 0 where
  pub no_child : (k : Share) → o.holds other ≡ Some k → k.part.role ≡ Parent me →
      (l : Message) × (before : List Message) × (after : List Message) × (o.channel other me ≡ before ++ l ∷ after) × (brings l ≡ true)
  pub no_gift : (l : Message) (before after : List Message) → o.channel me other ≡ before ++ l ∷ after → gives l.note l.tells ≡ false
  pub no_ask : (l : Message) (before after : List Message) → o.channel other me ≡ before ++ l ∷ after → asks l ≡ true →
      (g : Message) × (front : List Message) × (back : List Message) × (before ≡ front ++ g ∷ back) × (brings g ≡ true)

-- one step of one node, from one state of the object to another
pub data Step (o p : Object) : Type 0 where
  -- it makes the object
  Makes : (me : ℕ) → IsNowhere o → p ≡ with_holding o me (Some made_share) → Step o p
  -- it does something about it by itself, and some field of the object refers to the object or none
  Does : (me : ℕ) (refers : Bool) (a : Operation) (h : Share) (t : Transition) → o.holds me ≡ Some h → transition_of me a h ≡ Some t → p ≡ moved o me refers t → Step o p
  -- it takes the first letter from another node, which isn't stray
  Receives : (from me : ℕ) (l : Message) (rest : List Message) (t : Transition) → from ≢ me → o.channel from me ≡ l ∷ rest →
      letter_transition me from l (o.holds me) ≡ Some t → p ≡ moved (popped o from me l rest) me false t → Step o p
  -- it issues a letter about another object, which may tell of this one, if it knows this one
  Writes : (me to : ℕ) (tells : Bool) → (o.holds me ≡ None → tells ≡ false) → p ≡ issue o me (record { to = to; note = None; tells = tells }) → Step o p
  -- it forgets what it has of it, which nothing needs
  Forgets : (me : ℕ) (h : Share) → o.holds me ≡ Some h → IsUnneeded o me h → p ≡ with_holding o me None → Step o p
  -- it clears its record of another node, which nothing needs
  Clears : (me other : ℕ) → IsUnneededRecord o me other → p ≡ record o { entering = put_at o.entering me other None } → Step o p

-- steps one after another
pub data Run (o : Object) : Object → Type 0 where
  Stays : Run o o
  Goes : {p q : Object} → Run o p → Step p q → Run o q

-- ## where a store opens

-- a node other than 0 has no entry at first, or has heard of the object from node 0
pub data IsFirstElsewhere (h : Option Share) : Type 0 where
  Unknown : h ≡ None → IsFirstElsewhere h
  Heard : h ≡ Some (heard_share 0) → IsFirstElsewhere h

-- an object that the store opens with: node 0 owns it
pub record IsBorn (o : Object) : Type 0 where
  pub owner : o.holds 0 ≡ Some made_share
  pub others : (n : ℕ) → n ≢ 0 → IsFirstElsewhere (o.holds n)
  -- and it has a record of each node that has heard of it
  pub recorded : (n : ℕ) → o.holds n ≡ Some (heard_share 0) → o.entering 0 n ≡ Some no_numbers

-- a record that stands at first is at node 0, of a node that has heard of the object, and no letter is in it yet
pub record IsFirstRecord (o : Object) (n m : ℕ) (r : Numbers) : Type 0 where
  pub here : n ≡ 0
  pub heard : o.holds m ≡ Some (heard_share 0)
  pub numbers : r ≡ no_numbers

-- no letter was issued or taken, none is in flight, and each record is one that stands at first
pub record IsUntouched (o : Object) : Type 0 where
  pub channel : (n m : ℕ) → o.channel n m ≡ []
  pub issued : (n m : ℕ) → o.issued n m ≡ 0
  pub taken : (n m : ℕ) → o.taken n m ≡ 0
  pub records : (n m : ℕ) (r : Numbers) → o.entering n m ≡ Some r → IsFirstRecord o n m r

-- at first nothing was done yet, and the object is nowhere or one that the store opens with
pub data IsFirst (o : Object) : Type 0 where
  Absent : IsUntouched o → ((n : ℕ) → o.holds n ≡ None) → IsFirst o
  Born : IsUntouched o → IsBorn o → IsFirst o
