-- All nodes and the letters in flight, and what is said of them together: who owns an object, what
-- its current copy is, how a node finds its owner, which objects are reached, and when all is at rest.
use Rattle.std.specs.Prelude.{◌≡◌, ℕ, suc, ◌<◌, false, List, [], ◌∷◌, Contains, IsSome, map, Some, None, ◌⊎◌}
use Rattle.std.specs.Option.{option_map_or}
use Rattle.bmx_types.specs.Openings.{bunches_of}
use Rattle.bmx_types.specs.declared.values.Val.{Val}
use Rattle.bmx_types.specs.declared.addresses.Info.{Info}
use Rattle.bmx_graph.specs.State.{State}
use Rattle.bmx_graph.specs.Reached as Reached
use Rattle.bmx_msg.specs.declared.letters.Field.{Field}
use Rattle.bmx_msg.specs.declared.letters.Letter.{Letter}
use Rattle.bmx_msg.specs.declared.letters.Msg.{Msg}
use Rattle.bmx_msg.specs.declared.letters.Msg.TheVariants as msg
use Rattle.bmx_msg.specs.Letters.{targets}
use Rattle.bmx_types.specs.declared.numbers.Mode.TheVariants as mode
use Rattle.bmx_token.specs.declared.parts.Role.TheVariants as role
use Rattle.bmx_protocol.specs.declared.events.Event.{Event}
use Rattle.bmx_protocol.specs.Nodes.{Setting, Known, NodeState, fields_known, value_in}
use Rattle.bmx_protocol.specs.Places.{Places}
use Rattle.bmx_protocol.specs.Rules.{heard_field, name_in, grant_in}
use Rattle.bmx_protocol.specs.Steps.{Node}
use Rattle.bmx_protocol.specs.Histories.{in_flight}

-- the states of all nodes, where objects lie at each, and the letters in flight from one to another
pub record World : Type 0 where
  pub state : ℕ → NodeState
  pub places : ℕ → Places
  pub channel : ℕ → ℕ → List Letter

-- the world of nodes after a history
abbrev pub world_of : (ℕ → Node) → List Event → World
world_of nodes history = record { state = λ n. (nodes n).state; places = λ n. (nodes n).places; channel = λ n m. in_flight n m history }

-- ## owners

-- a node has the object with the role of its owner
pub record HasOwned (w : World) (x n : ℕ) (k : Known) : Type 0 where
  pub known : (w.state n).known x ≡ Some k
  pub owns : k.part.role ≡ role.Owner

-- a grant of ownership is in flight
pub record IsMoving (w : World) (x from to : ℕ) (l : Letter) (info : Info) (fields : List Field) : Type 0 where
  pub there : Contains (w.channel from to) l
  pub grants : l.msg ≡ msg.WriteGrant info fields
  pub named : info.name ≡ x

-- node n owns x: it has the role, or the grant of ownership is in flight to it
pub data Owns (w : World) (x n : ℕ) : Type 0 where
  Has : (k : Known) → HasOwned w x n k → Owns w x n
  Gets : (from : ℕ) (l : Letter) (info : Info) (fields : List Field) → IsMoving w x from n l info fields → Owns w x n

-- the fields of x at its owner: those of the owner's copy, or of the grant in flight
pub data HasCurrent (w : World) (x : ℕ) (fields : List Val) : Type 0 where
  Kept : (n : ℕ) (k : Known) → HasOwned w x n k → fields_known (Some k) ≡ Some fields → HasCurrent w x fields
  Sent : (from to : ℕ) (l : Letter) (info : Info) (told : List Field) → IsMoving w x from to l info told →
      map (λ f. value_in (heard_field f)) told ≡ fields → HasCurrent w x fields

-- the current copy of x is as the graph has x: the graph has it, and its owner's copy or the grant in
-- flight has the same fields
pub record IsCurrent (w : World) (g : State) (x : ℕ) : Type 0 where
  pub fields : List Val
  pub in_graph : g.object x ≡ Some fields
  pub at_owner : HasCurrent w x fields

-- ## chains

-- x has a parent at a node
pub record HasParent (w : World) (x n parent : ℕ) (k : Known) : Type 0 where
  pub known : (w.state n).known x ≡ Some k
  pub asks : k.part.role ≡ role.Parent parent

-- a grant of ownership of x is in flight from one node to another
pub record IsHandedOver (w : World) (x from to : ℕ) : Type 0 where
  pub letter : Letter
  pub info : Info
  pub fields : List Field
  pub moves : IsMoving w x from to letter info fields

-- where parents end: at the owner, or at a node that gave ownership to its parent in a letter in flight
pub data ParentChainEnd (w : World) (x n : ℕ) : Type 0 where
  Owned : (k : Known) → HasOwned w x n k → ParentChainEnd w x n
  Gave : (to : ℕ) (k : Known) → HasParent w x n to k → IsHandedOver w x n to → ParentChainEnd w x n

-- from node n, through parents, to where they end, in so many steps
pub data ParentChain (w : World) (x : ℕ) : ℕ → ℕ → Type 0 where
  Here : {n : ℕ} → ParentChainEnd w x n → ParentChain w x n 0
  On : {n parent steps : ℕ} (k : Known) → HasParent w x n parent k → ParentChain w x parent steps → ParentChain w x n (suc steps)

-- the parents of x lead from a node to the owner, or to who gave ownership, in fewer steps than there are nodes
abbrev pub HasChain : Setting → World → ℕ → ℕ → Type 0
HasChain st w x n = (steps : ℕ) × (steps < st.nodes) × ParentChain w x n steps

-- ## what holds of every name in every legal history, by the laws of stores

-- the names of a message: what it is about, and the targets of the fields that it brings
abbrev pub names_in : Msg → List ℕ
names_in m = name_in m ∷ option_map_or (λ (g : Info × List Field). targets g.1) (grant_in m) []

-- a letter speaks of a name: it asks for it, tells of it, or takes it back
abbrev pub Speaks : Letter → ℕ → Type 0
Speaks l x = Contains (names_in l.msg) x

-- a name stands somewhere: a node knows it, or a letter in flight speaks of it
pub data IsSomewhere (st : Setting) (w : World) (x : ℕ) : Type 0 where
  At : (n : ℕ) (k : Known) → n < st.nodes → (w.state n).known x ≡ Some k → IsSomewhere st w x
  Between : (n m : ℕ) (l : Letter) → n < st.nodes → m < st.nodes → Contains (w.channel n m) l → Speaks l x → IsSomewhere st w x

-- one node of the store owns x, and no other
pub record HasOneOwner (st : Setting) (w : World) (x : ℕ) : Type 0 where
  pub owner : ℕ
  pub a_node : owner < st.nodes
  pub owns : Owns w x owner
  pub alone : (n : ℕ) → Owns w x n → n ≡ owner

-- each name that stands somewhere has one owner
abbrev pub EachHasOneOwner : Setting → World → Type 0
EachHasOneOwner st w = (x : ℕ) → IsSomewhere st w x → HasOneOwner st w x

-- while a node holds x for writing, no other node holds it
abbrev pub WritesExclude : Setting → World → Type 0
WritesExclude st w =
    (n m x : ℕ) (j k : Known) → n < st.nodes → m < st.nodes →
    (w.state n).known x ≡ Some j → (w.state m).known x ≡ Some k →
    j.part.held ≡ Some mode.Write → IsSome k.part.held → m ≡ n

-- ## parents

-- from each node that knows a name its parents lead to the owner, or to who gave ownership
abbrev pub EachHasChain : Setting → World → Type 0
EachHasChain st w = (n x : ℕ) (k : Known) → n < st.nodes → (w.state n).known x ≡ Some k → HasChain st w x n

-- a parent answers for x to a node that asks it: it knows x, and has a record of x from that node unless
-- a grant of ownership of x is in flight from the node to it; then it wants to write x
pub record AnswersFor (w : World) (x child parent : ℕ) : Type 0 where
  pub known : Known
  pub knows : (w.state parent).known x ≡ Some known
  pub recorded : IsSome ((w.state parent).entering x child) ⊎ IsHandedOver w x child parent
  pub wants : IsHandedOver w x child parent → known.part.want ≡ Some mode.Write

-- each parent answers for what it is asked for
abbrev pub EachParentAnswers : Setting → World → Type 0
EachParentAnswers st w =
    (n x parent : ℕ) (k : Known) → n < st.nodes → HasParent w x n parent k → AnswersFor w x n parent

-- ## rest

-- nothing of a name is held, wanted or ready at a node
pub record IsUnclaimed (k : Known) : Type 0 where
  pub held : k.part.held ≡ None
  pub want : k.part.want ≡ None
  pub ready : k.part.ready ≡ false

-- no letter is in flight, and no node holds or wants a token
pub record IsAtRest (st : Setting) (w : World) : Type 0 where
  pub no_letter : (n m : ℕ) → n < st.nodes → m < st.nodes → w.channel n m ≡ []
  pub no_token : (n x : ℕ) (k : Known) → n < st.nodes → (w.state n).known x ≡ Some k → IsUnclaimed k

-- ## reached objects

-- x is reached in the graph of a store that opens so
abbrev pub IsReached : Setting → State → ℕ → Type 0
IsReached st g x = Reached.IsReached st.nodes (bunches_of st.births) g x
