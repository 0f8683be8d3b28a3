-- What holds of one object over all nodes, whatever steps are taken.
use Rattle.std.specs.Prelude.{◌≡◌, ◌≢◌, ℕ, suc, ◌+◌, ◌<◌, ◌≤◌, ◌==◌, ◌&&◌, ◌⊎◌, Bool, true, false, if◌then◌else◌, List, [], ◌∷◌, ◌++◌, Contains, count_by, Option, Some, None, IsSome}
use Rattle.std.specs.Option.{option_map_or}
use Rattle.std.specs.List.{list_any}
use Rattle.bmx_types.specs.declared.numbers.Mode.{Mode}
use Rattle.bmx_types.specs.declared.numbers.Mode.TheVariants as mode
use Rattle.bmx_token.specs.declared.parts.Ask.{Ask}
use Rattle.bmx_token.specs.declared.parts.Role.{Role}
use Rattle.bmx_token.specs.declared.parts.Role.TheVariants.{Owner, Parent}
use Rattle.bmx_token.specs.Transitions.{Share, Note, Asks, Grants, Recalls, Returns, same_mode, is_request_of, is_grant_of}
use Rattle.bmx_token_model.specs.Machine.{Message, Numbers, Object, Run, IsFirst, IsNowhere, IsUnneeded, IsUnneededRecord, gives, brings, asks, letter_transition}
use Rattle.bmx_token_model.specs.Tables.{Tabled, TableRun, MayForget, MayClear, untabled}

-- ## owners

-- a role is the owner's
abbrev pub is_owner : Role → Bool
is_owner Owner = true
is_owner (Parent parent) = false

-- 1 where a node has the object as its owner
abbrev pub owned_at : Option Share → ℕ
owned_at None = 0
owned_at (Some h) = if is_owner h.part.role then 1 else 0

-- how many letters bring ownership
abbrev pub handovers_in : List Message → ℕ
handovers_in letters = count_by brings letters

-- where ownership is: at a node, or in flight from one to another
pub data Seat : Type 0 where
  At : (n : ℕ) → Seat
  Moving : (from to : ℕ) → Seat

abbrev pub is_at : Seat → ℕ → Bool
is_at (At n) k = k == n
is_at (Moving from to) k = false

abbrev pub is_moving : Seat → ℕ → ℕ → Bool
is_moving (At n) j k = false
is_moving (Moving from to) j k = (j == from) && (k == to)

-- ownership is there and nowhere else: one node owns the object and no grant of it is in flight, or
-- one grant is and no node owns it
pub record IsOwned (o : Object) (s : Seat) : Type 0 where
  pub nodes : (n : ℕ) → owned_at (o.holds n) ≡ (if is_at s n then 1 else 0)
  pub letters : (n m : ℕ) → handovers_in (o.channel n m) ≡ (if is_moving s n m then 1 else 0)

-- the object is nowhere, or has one owner
abbrev pub HasOneSeat : Object → Type 0
HasOneSeat o = IsNowhere o ⊎ ((s : Seat) × IsOwned o s)

-- whatever steps are taken from an opening, the object is nowhere or has one owner
abbrev pub OwnershipIsOne : Type 0
OwnershipIsOne = (o p : Object) → IsFirst o → Run o p → HasOneSeat p

-- ## tokens

-- while a node holds the object for writing no other holds it
abbrev pub WriteExcludes : Object → Type 0
WriteExcludes o =
    (n m : ℕ) (h k : Share) → o.holds n ≡ Some h → o.holds m ≡ Some k →
    h.part.held ≡ Some mode.Write → IsSome k.part.held → m ≡ n

-- whatever steps are taken from an opening, a token for writing excludes
abbrev pub TokensExclude : Type 0
TokensExclude = (o p : Object) → IsFirst o → Run o p → WriteExcludes p

-- ## readers

-- a node owns the object, and has another among its readers
pub record HasReader (o : Object) (owner reader : ℕ) : Type 0 where
  pub share : Share
  pub has : o.holds owner ≡ Some share
  pub owns : is_owner share.part.role ≡ true
  pub listed : Contains share.part.readers reader

-- each copy but the owner's, and each grant to read in flight, is of a node among the owner's readers: the
-- owner is the parent of the node that has the copy, or the sender of the grant
pub record ReadersListed (o : Object) : Type 0 where
  pub copies : (n parent : ℕ) (h : Share) → o.holds n ≡ Some h → h.copy ≡ true → h.part.role ≡ Parent parent → HasReader o parent n
  pub grants : (n m : ℕ) (l : Message) → Contains (o.channel n m) l → l.note ≡ Some (Grants mode.Read) → HasReader o n m

-- whatever steps are taken from an opening, the owner knows its readers
abbrev pub ReadersAreListed : Type 0
ReadersAreListed = (o p : Object) → IsFirst o → Run o p → ReadersListed p

-- ## wants

-- where the request of a node may stand: in flight from one node to another, in the queue at a node, or as a
-- grant in flight from a node
pub data Spot : Type 0 where
  Requested : (from to : ℕ) → Spot
  Queued : (at : ℕ) → Spot
  Granted : (from : ℕ) → Spot

abbrev pub same_spot : Spot → Spot → Bool
same_spot (Requested n k) (Requested j l) = (n == j) && (k == l)
same_spot (Requested n k) (Queued j) = false
same_spot (Requested n k) (Granted j) = false
same_spot (Queued n) (Requested j l) = false
same_spot (Queued n) (Queued j) = n == j
same_spot (Queued n) (Granted j) = false
same_spot (Granted n) (Requested j l) = false
same_spot (Granted n) (Queued j) = false
same_spot (Granted n) (Granted j) = n == j

-- how many letters have a note that passes a test
abbrev pub count_notes : (Note → Bool) → List Message → ℕ
count_notes p letters = count_by (λ l. option_map_or p l.note false) letters

-- the queue at a node, empty where it has nothing of the object
abbrev pub queue_at : Option Share → List Ask
queue_at None = []
queue_at (Some h) = h.part.queue

-- how often the request of node a in mode m stands at a spot
abbrev pub standing : Object → Mode → ℕ → Spot → ℕ
standing o m a (Requested n k) = count_notes (is_request_of m a) (o.channel n k)
standing o m a (Queued n) = count_by (λ (q : Ask). same_mode m q.mode && (q.asker == a)) (queue_at (o.holds n))
standing o m a (Granted n) = count_notes (is_grant_of m) (o.channel n a)

-- a node wants the token in mode m, and it isn't ready there
pub record IsWaiting (o : Object) (m : Mode) (a : ℕ) : Type 0 where
  pub share : Share
  pub has : o.holds a ≡ Some share
  pub want : share.part.want ≡ Some m
  pub unready : share.part.ready ≡ false

-- a request stands at one spot once, and nowhere else
pub record IsPlaced (o : Object) (m : Mode) (a : ℕ) : Type 0 where
  pub spot : Spot
  pub once : (t : Spot) → standing o m a t ≡ (if same_spot spot t then 1 else 0)

-- what each node wants that isn't ready stands at exactly one spot, and nothing else is requested or granted
pub record WantsArePlaced (o : Object) : Type 0 where
  pub wanted : (m : Mode) (a : ℕ) → IsWaiting o m a → IsPlaced o m a
  pub unwanted : (m : Mode) (a : ℕ) → (IsWaiting o m a → ⊥) → (t : Spot) → standing o m a t ≡ 0

-- whatever steps are taken from an opening, each want that isn't ready stands at exactly one spot
abbrev pub EachWantIsPlaced : Type 0
EachWantIsPlaced = (o p : Object) → IsFirst o → Run o p → WantsArePlaced p

-- ## answers

-- a note recalls the copy, or says that it was given up
abbrev pub is_recall : Note → Bool
is_recall (Asks m asker) = false
is_recall (Grants m) = false
is_recall Recalls = true
is_recall Returns = false

abbrev pub is_return : Note → Bool
is_return (Asks m asker) = false
is_return (Grants m) = false
is_return Recalls = false
is_return Returns = true

-- a node is to answer another at its release
abbrev pub is_due : Option ℕ → ℕ → Bool
is_due None n = false
is_due (Some owner) n = owner == n

abbrev pub owes : Option Share → ℕ → Bool
owes None n = false
owes (Some h) n = is_due h.part.due n

-- how many answers node k owes node n: to a recall in flight, at its release, or in flight back
abbrev pub answers_owed : Object → ℕ → ℕ → ℕ
answers_owed o n k = count_notes is_recall (o.channel n k) + (if owes (o.holds k) n then 1 else 0) + count_notes is_return (o.channel k n)

-- a node waits for another's answer
abbrev pub waits_for : Option Share → ℕ → Bool
waits_for None k = false
waits_for (Some h) k = list_any (λ node. node == k) h.part.waiting

-- each node that is waited for owes exactly one answer, and no other owes any
abbrev pub AnswersAreOwed : Object → Type 0
AnswersAreOwed o = (n k : ℕ) → answers_owed o n k ≡ (if waits_for (o.holds n) k then 1 else 0)

-- whatever steps are taken from an opening, who is waited for owes one answer
abbrev pub EachOwesOneAnswer : Type 0
EachOwesOneAnswer = (o p : Object) → IsFirst o → Run o p → AnswersAreOwed p

-- ## letters

-- the first letter in flight to a node from another isn't stray there by what it says of the token
abbrev pub NoneIsStray : Object → Type 0
NoneIsStray o = (from me : ℕ) (l : Message) (rest : List Message) → from ≢ me → o.channel from me ≡ l ∷ rest → IsSome (letter_transition me from l (o.holds me))

-- whatever steps are taken from an opening, no letter is stray
abbrev pub NoLetterIsStray : Type 0
NoLetterIsStray = (o p : Object) → IsFirst o → Run o p → NoneIsStray p

-- nobody has to do with itself: no node is its own parent, is among its own readers or asks itself to read, and
-- no letter from a node to itself has a note
pub record IsApart (o : Object) : Type 0 where
  pub parents : (n : ℕ) (h : Share) → o.holds n ≡ Some h → h.part.role ≢ Parent n
  pub readers : (n : ℕ) (h : Share) → o.holds n ≡ Some h → Contains h.part.readers n → ⊥
  pub askers : (n : ℕ) → standing o mode.Read n (Queued n) ≡ 0
  pub letters : (n : ℕ) (l : Message) → Contains (o.channel n n) l → l.note ≡ None

-- whatever steps are taken from an opening, nobody has to do with itself
abbrev pub NobodyAsksItself : Type 0
NobodyAsksItself = (o p : Object) → IsFirst o → Run o p → IsApart p

-- ## parents and requests

-- a letter that brings ownership is among these
pub record IsBrought (letters : List Message) : Type 0 where
  pub letter : Message
  pub there : Contains letters letter
  pub brings_it : brings letter ≡ true

-- a node may be asked by another: it knows the object, and has a record of the other or ownership among these
-- letters from it
pub record MayBeAsked (o : Object) (n by : ℕ) (letters : List Message) : Type 0 where
  pub share : Share
  pub has : o.holds n ≡ Some share
  pub answers : IsSome (o.entering n by) ⊎ IsBrought letters

-- who is asked by a letter may be asked, with what stands in front of the letter
abbrev pub AskedAnswer : Object → Type 0
AskedAnswer o = (n m : ℕ) (l : Message) (before after : List Message) → o.channel n m ≡ before ++ l ∷ after → asks l ≡ true → MayBeAsked o m n before

-- whatever steps are taken from an opening, who is asked knows the object and answers for the sender
abbrev pub WhoIsAskedAnswers : Type 0
WhoIsAskedAnswers = (o p : Object) → IsFirst o → Run o p → AskedAnswer p

-- a node's parent may be asked by it, and wants to write while ownership is in flight to it from the node
pub record ParentAnswers (o : Object) (child parent : ℕ) : Type 0 where
  pub asked : MayBeAsked o parent child (o.channel child parent)
  pub wants : IsBrought (o.channel child parent) → asked.share.part.want ≡ Some mode.Write

-- ownership is at a node, or it gave it to another in a letter in flight, and asks that one from then on
pub data ChainEnd (o : Object) (n : ℕ) : Type 0 where
  Owns : (h : Share) → o.holds n ≡ Some h → h.part.role ≡ Owner → ChainEnd o n
  Gave : (h : Share) (to : ℕ) → o.holds n ≡ Some h → h.part.role ≡ Parent to → IsBrought (o.channel n to) → ChainEnd o n

-- from a node, by parents one after another, to one of these, in so many steps
pub data Chain (o : Object) : ℕ → ℕ → Type 0 where
  Here : {n : ℕ} → ChainEnd o n → Chain o n 0
  On : {n parent steps : ℕ} (h : Share) → o.holds n ≡ Some h → h.part.role ≡ Parent parent → Chain o parent steps → Chain o n (suc steps)

-- the nodes that know the object are below a number
abbrev pub IsBelow : Object → ℕ → Type 0
IsBelow o nodes = (n : ℕ) (h : Share) → o.holds n ≡ Some h → n < nodes

-- parents answer, and lead to the owner, or to who gave ownership, in fewer steps than there are nodes
pub record ParentsLead (o : Object) : Type 0 where
  pub parents : (n parent : ℕ) (h : Share) → o.holds n ≡ Some h → h.part.role ≡ Parent parent → ParentAnswers o n parent
  pub chains : (nodes : ℕ) → IsBelow o nodes → (n : ℕ) (h : Share) → o.holds n ≡ Some h → (steps : ℕ) × (steps < nodes) × Chain o n steps

-- whatever steps are taken from an opening, parents lead to the owner
abbrev pub ParentsLeadToTheOwner : Type 0
ParentsLeadToTheOwner = (o p : Object) → IsFirst o → Run o p → ParentsLead p

-- ## records

-- each letter that gives the object is in a record of its receiver at its sender, which knows it; and each record is
-- within what was issued and taken
pub record RecordsAreKept (o : Object) : Type 0 where
  pub gifts : (n m : ℕ) (l : Message) → Contains (o.channel n m) l → gives l.note l.tells ≡ true →
      IsSome (o.holds n) × (r : Numbers) × (o.entering n m ≡ Some r) × (l.seq ≤ r.sent)
  pub within : (n m : ℕ) (r : Numbers) → o.entering n m ≡ Some r → (r.sent ≤ o.issued n m) × (r.got ≤ o.taken n m)

-- whatever steps are taken from an opening, gifts are recorded
abbrev pub GiftsAreRecorded : Type 0
GiftsAreRecorded = (o p : Object) → IsFirst o → Run o p → RecordsAreKept p

-- ## what nothing needs

-- whatever steps are taken from an opening, nothing needs what a node has where nothing happens about its token and
-- it has no record
abbrev pub IdleIsUnneeded : Type 0
IdleIsUnneeded = (o p : Object) → IsFirst o → Run o p → (me : ℕ) (h : Share) → MayForget p me h → IsUnneeded p me h

-- whatever steps are taken with tables, nothing needs a record that may be cleared by one
abbrev pub ClearedIsUnneeded : Type 0
ClearedIsUnneeded = (o : Object) (s : Tabled) → IsFirst o → TableRun (untabled o) s → (n m : ℕ) → MayClear s n m → IsUnneededRecord s.object n m

-- and so the object's own steps are a run of the model, of which the laws above hold
abbrev pub TablesKeepTheLaws : Type 0
TablesKeepTheLaws = (o : Object) (s : Tabled) → IsFirst o → TableRun (untabled o) s → Run o s.object
