-- What holds of every name in every legal history.
use Rattle.std.specs.Prelude.{◌≡◌, ℕ, ◌<◌, ◌≤◌, ◌==◌, ◌&&◌, Bool, false, List, Contains, Some, IsSome, count_by}
use Rattle.std.specs.Option.{option_map_or}
use Rattle.bmx_types.specs.declared.numbers.Mode.{Mode}
use Rattle.bmx_token.specs.declared.parts.Ask.{Ask}
use Rattle.bmx_token.specs.Transitions.{Note, same_mode, is_request_of, is_grant_of}
use Rattle.bmx_protocol.specs.Rules.{name_in, note_in}
use Rattle.bmx_types.specs.Words.{maker, count_of}
use Rattle.bmx_types.specs.Openings.{IsOpening}
use Rattle.bmx_types.specs.declared.addresses.Info.{Info}
use Rattle.bmx_msg.specs.declared.letters.Field.{Field}
use Rattle.bmx_msg.specs.declared.letters.Letter.{Letter}
use Rattle.bmx_msg.specs.declared.letters.Msg.{Msg}
use Rattle.bmx_msg.specs.declared.letters.Msg.TheVariants as msg
use Rattle.bmx_protocol.specs.declared.events.Event.{Event}
use Rattle.bmx_protocol.specs.Nodes.{Setting, Known}
use Rattle.bmx_protocol.specs.Steps.{Node}
use Rattle.bmx_protocol.specs.Histories.{AreAfter, IsLegal}
use Rattle.bmx_protocol.specs.Worlds.{World, world_of, HasOwned, HasParent, IsSomewhere, EachHasOneOwner, WritesExclude, EachHasChain, EachParentAnswers}
use Rattle.bmx_protocol.specs.Cases.{one_bunch, told_of_the_object, written_by_its_taker}

-- what holds of the world after each legal history of a store
abbrev pub Always : (Setting → World → Type 0) → Type 0
Always Holds =
    (st : Setting) (history : List Event) (nodes : ℕ → Node) →
    IsOpening st.nodes st.limit st.births → IsLegal st history → AreAfter st history nodes → Holds st (world_of nodes history)

-- each name that stands somewhere has one owner
abbrev pub OneOwner : Type 0
OneOwner = Always EachHasOneOwner

-- a message grants ownership of x
abbrev pub is_handover_of : ℕ → Msg → Bool
is_handover_of x (msg.ReadReq name asker) = false
is_handover_of x (msg.WriteReq name asker) = false
is_handover_of x (msg.ReadGrant info fields) = false
is_handover_of x (msg.WriteGrant info fields) = info.name == x
is_handover_of x (msg.Inval name) = false
is_handover_of x (msg.InvAck name) = false

-- how many letters grant ownership of x
abbrev pub handovers_of : ℕ → List Letter → ℕ
handovers_of x letters = count_by (λ (l : Letter). is_handover_of x l.msg) letters

-- ownership of x has one seat: one node has the owner's role, and no grant of ownership is in flight; or no
-- node has, and one grant is, between two nodes
pub data IsSeated (st : Setting) (w : World) (x : ℕ) : Type 0 where
  At : (n : ℕ) (k : Known) → n < st.nodes → HasOwned w x n k → ((m : ℕ) (j : Known) → HasOwned w x m j → m ≡ n) →
      ((from to : ℕ) → handovers_of x (w.channel from to) ≡ 0) → IsSeated st w x
  Moving : (from to : ℕ) → from < st.nodes → to < st.nodes → handovers_of x (w.channel from to) ≡ 1 →
      ((n m : ℕ) → (n ≡ from → m ≡ to → ⊥) → handovers_of x (w.channel n m) ≡ 0) →
      ((m : ℕ) (j : Known) → HasOwned w x m j → ⊥) → IsSeated st w x

-- ownership of each name that stands somewhere has one seat
abbrev pub OneSeat : Type 0
OneSeat = Always (λ st w. (x : ℕ) → IsSomewhere st w x → IsSeated st w x)

-- while a node holds an object for writing, no other node holds it
abbrev pub WriteExcludes : Type 0
WriteExcludes = Always WritesExclude

-- a node owns x, and has another among its readers of it
pub record HasReader (w : World) (x owner reader : ℕ) : Type 0 where
  pub known : Known
  pub owned : HasOwned w x owner known
  pub listed : Contains known.part.readers reader

-- each copy but the owner's, and each grant to read in flight, is of a node among the owner's readers: the
-- owner is the parent of the node that has the copy, or the sender of the grant
pub record EachReaderIsListed (w : World) : Type 0 where
  pub copies : (n x parent : ℕ) (k : Known) → HasParent w x n parent k → IsSome k.copy → HasReader w x parent n
  pub grants : (n m : ℕ) (l : Letter) (info : Info) (fields : List Field) → Contains (w.channel n m) l →
      l.msg ≡ msg.ReadGrant info fields → HasReader w info.name n m

-- the owner knows the readers of each object
abbrev pub ReadersAreListed : Type 0
ReadersAreListed = Always (λ st w. EachReaderIsListed w)

-- ## wants

-- a node wants the token of x in a mode, and it isn't ready
pub record IsWaiting (w : World) (x : ℕ) (m : Mode) (a : ℕ) : Type 0 where
  pub known : Known
  pub knows : (w.state a).known x ≡ Some known
  pub want : known.part.want ≡ Some m
  pub unready : known.part.ready ≡ false

-- where a want of a node may stand: in a request in flight, in a node's queue, in a grant in flight to it
pub data Spot : Type 0 where
  Asked : (from to : ℕ) → Spot
  Queued : (at : ℕ) → Spot
  Granted : (from : ℕ) → Spot

-- how many letters about x have such a note
abbrev pub letters_about : ℕ → (Note → Bool) → List Letter → ℕ
letters_about x test letters = count_by (λ (l : Letter). (name_in l.msg == x) && test (note_in l.msg)) letters

-- how often node a's want of x in a mode stands at a spot
abbrev pub times_at : World → ℕ → Mode → ℕ → Spot → ℕ
times_at w x m a (Asked from to) = letters_about x (is_request_of m a) (w.channel from to)
times_at w x m a (Queued at) =
    option_map_or (λ k. count_by (λ (q : Ask). same_mode m q.mode && (q.asker == a)) k.part.queue) ((w.state at).known x) 0
times_at w x m a (Granted from) = letters_about x (is_grant_of m) (w.channel from a)

-- a want stands once, at one spot alone
pub record StandsOnce (w : World) (x : ℕ) (m : Mode) (a : ℕ) : Type 0 where
  pub spot : Spot
  pub once : times_at w x m a spot ≡ 1
  pub alone : (t : Spot) → (t ≡ spot → ⊥) → times_at w x m a t ≡ 0

-- each want of x that isn't ready stands once, and nothing is asked, queued or granted that isn't waited for
pub record WantsStand (w : World) (x : ℕ) : Type 0 where
  pub waits : (m : Mode) (a : ℕ) → IsWaiting w x m a → StandsOnce w x m a
  pub others : (m : Mode) (a : ℕ) → (IsWaiting w x m a → ⊥) → (t : Spot) → times_at w x m a t ≡ 0

-- each want that isn't ready stands at one spot
abbrev pub WantsStandOnce : Type 0
WantsStandOnce = Always (λ st w. (x : ℕ) → WantsStand w x)

-- ## parents

-- each parent answers for what it is asked for
abbrev pub ParentsAnswer : Type 0
ParentsAnswer = Always EachParentAnswers

-- from each node that knows a name its parents lead to the owner, or to who gave ownership
abbrev pub ParentsLead : Type 0
ParentsLead = Always EachHasChain

-- ## names

-- x is a name that a node has made: the node counts its names from 1
pub record IsCounted (st : Setting) (w : World) (x : ℕ) : Type 0 where
  pub by_a_node : maker x < st.nodes
  pub from_one : 1 ≤ count_of x
  pub made : count_of x ≤ (w.state (maker x)).made

-- a name that stands somewhere is among those that its maker has counted
abbrev pub NamesAreCounted : Type 0
NamesAreCounted = Always (λ st w. (x : ℕ) → IsSomewhere st w x → IsCounted st w x)

-- the laws speak of something: a store of two nodes opens with one bunch, and two runs worked by hand are legal
-- there; in the second ownership is in flight, then a node writes, and another waits
abbrev pub LawsApply : Type 0
LawsApply =
    IsOpening (one_bunch 2).nodes (one_bunch 2).limit (one_bunch 2).births
    × IsLegal (one_bunch 2) told_of_the_object.past × IsLegal (one_bunch 2) written_by_its_taker.past
