-- What holds of places and letters in every legal history.
use Rattle.std.specs.Prelude.{◌≡◌, ◌≢◌, ℕ, ◌<◌, ◌≤◌, List, ◌∷◌, Contains, Some, IsSome, false}
use Rattle.bmx_types.specs.Openings.{IsOpening}
use Rattle.bmx_types.specs.declared.addresses.Place.{Place}
use Rattle.bmx_types.specs.declared.addresses.Info.{Info}
use Rattle.bmx_owner.specs.declared.entering.Record.{Record}
use Rattle.bmx_msg.specs.declared.letters.Field.{Field}
use Rattle.bmx_msg.specs.declared.letters.Letter.{Letter}
use Rattle.bmx_protocol.specs.declared.inputs.Input.TheVariants as input
use Rattle.bmx_protocol.specs.declared.inputs.NodeAnswer.TheVariants as answer
use Rattle.bmx_protocol.specs.declared.inputs.Done.{Done}
use Rattle.bmx_protocol.specs.declared.events.Event.{Event}
use Rattle.bmx_protocol.specs.Nodes.{Setting, Known}
use Rattle.bmx_protocol.specs.Rules.{infos}
use Rattle.bmx_protocol.specs.Strays.{some_clash}
use Rattle.bmx_protocol.specs.Steps.{Node, IsStep}
use Rattle.bmx_protocol.specs.Histories.{in_flight, AreAfter, IsLegal}
use Rattle.bmx_protocol.specs.Worlds.{World, HasOwned, IsMoving}
use Rattle.bmx_store_laws.specs.Laws.{Always}
use Rattle.bmx_places.specs.Ledger.{HasLedger}

-- ## blocks

-- a store has a ledger: blocks that its nodes have handed out, apart from each other, to which each place of an
-- entry, each header, each record and each Info in flight belongs
abbrev pub BlocksAreKept : Type 0
BlocksAreKept = Always HasLedger

-- ## shapes

-- something says of x that it has a bunch and a size: an entry of a node, or an Info in flight
pub data HasShape (w : World) (x bunch size : ℕ) : Type 0 where
  KnownAt : (n : ℕ) (k : Known) → (w.state n).known x ≡ Some k → k.bunch ≡ bunch → k.size ≡ size → HasShape w x bunch size
  ToldIn : (n m : ℕ) (l : Letter) (info : Info) → Contains (w.channel n m) l → Contains (infos l.msg) info → info.name ≡ x →
      info.bunch ≡ bunch → info.size ≡ size → HasShape w x bunch size

-- a name has one bunch and size wherever it stands, and its records have that bunch
pub record ShapesAgree (w : World) : Type 0 where
  pub shapes : (x bunch size other_bunch other_size : ℕ) → HasShape w x bunch size → HasShape w x other_bunch other_size →
      (bunch ≡ other_bunch) × (size ≡ other_size)
  pub records : (n m x bunch size : ℕ) (r : Record) → (w.state n).entering x m ≡ Some r → HasShape w x bunch size → r.bunch ≡ bunch

abbrev pub OneShape : Type 0
OneShape = Always (λ st w. ShapesAgree w)

-- ## places

-- x lies at a place: that of a node's entry, or one that an Info in flight tells of
pub data HasPlace (w : World) (x : ℕ) (p : Place) : Type 0 where
  At : (n : ℕ) → (w.places n).place x ≡ Some p → HasPlace w x p
  Between : (n m : ℕ) (l : Letter) (info : Info) → Contains (w.channel n m) l → Contains (infos l.msg) info → info.name ≡ x → info.place ≡ p →
      HasPlace w x p

-- where x lies at its owner: in the owner's entry, or in the grant of ownership in flight
pub data OwnerHas (w : World) (x : ℕ) (p : Place) : Type 0 where
  Kept : (n : ℕ) (k : Known) → HasOwned w x n k → (w.places n).place x ≡ Some p → OwnerHas w x p
  Sent : (from to : ℕ) (l : Letter) (info : Info) (fields : List Field) → IsMoving w x from to l info fields → info.place ≡ p → OwnerHas w x p

-- over all entries and letters in flight a name with its number of moves has one address, and nobody has heard of more
-- moves than the owner, or the grant of ownership in flight, has; each entry has a place
pub record PlacesAgree (w : World) : Type 0 where
  pub one : (x : ℕ) (p q : Place) → HasPlace w x p → HasPlace w x q → p.moves ≡ q.moves → p.address ≡ q.address
  pub newest : (x : ℕ) (p q : Place) → HasPlace w x p → OwnerHas w x q → p.moves ≤ q.moves
  pub placed : (n x : ℕ) (k : Known) → (w.state n).known x ≡ Some k → IsSome ((w.places n).place x)

abbrev pub OnePlace : Type 0
OnePlace = Always (λ st w. PlacesAgree w)

-- ## letters

-- what a letter in flight tells of places clashes with nothing that its receiver knows
abbrev pub NoInfoClashes : Type 0
NoInfoClashes =
    Always (λ st w. (from me : ℕ) (l : Letter) → Contains (w.channel from me) l → some_clash me from (w.state me).known (w.places me) (infos l.msg) ≡ false)

-- a step that takes the next letter from a node of the store, at any stamp, takes it: it isn't stray
abbrev pub NextIsTaken : Type 0
NextIsTaken =
    (st : Setting) (history : List Event) (nodes : ℕ → Node) →
    IsOpening st.nodes st.limit st.births → IsLegal st history → AreAfter st history nodes →
    (from me stamp : ℕ) (l : Letter) (rest : List Letter) (done : Done) (after : Node) → from < st.nodes → me < st.nodes →
    in_flight from me history ≡ l ∷ rest → IsStep st me (nodes me) stamp (input.Take from l) done after → done.answer ≡ answer.Nil

-- no event of a legal history is answered that it is stray
abbrev pub NoLetterIsStray : Type 0
NoLetterIsStray =
    (st : Setting) (history : List Event) (e : Event) →
    IsOpening st.nodes st.limit st.births → IsLegal st history → Contains history e → e.done.answer ≢ answer.Stray
