-- Where the fields of the graph are: current copies at owners, and what copies and letters refer to.
use Rattle.std.specs.Prelude.{◌≡◌, ℕ, ◌<◌, ◌≤◌, List, Contains, Some, IsSome}
use Rattle.bmx_types.specs.Words.{name_word}
use Rattle.bmx_graph.specs.State.{State}
use Rattle.bmx_msg.specs.declared.letters.Letter.{Letter}
use Rattle.bmx_msg.specs.Letters.{given}
use Rattle.bmx_owner.specs.declared.entering.Record.{Record}
use Rattle.bmx_protocol.specs.declared.views.ViewField.{ViewField}
use Rattle.bmx_protocol.specs.declared.views.ViewField.TheVariants as field
use Rattle.bmx_protocol.specs.Nodes.{Setting, Known}
use Rattle.bmx_protocol.specs.Worlds.{World, IsCurrent, IsReached}

-- each name that a node has made has its current copy at its owner, and so has each name that is reached
pub record AreCurrent (st : Setting) (w : World) (g : State) : Type 0 where
  pub made : (n count : ℕ) → n < st.nodes → 1 ≤ count → count ≤ (w.state n).made → IsCurrent w g (name_word n count)
  pub reached : (x : ℕ) → IsReached st g x → IsCurrent w g x

-- a node has a record of y for another node, with a letter of this number or a later one
pub record HasRecord (w : World) (y n m seq : ℕ) : Type 0 where
  pub entry : Record
  pub there : (w.state n).entering y m ≡ Some entry
  pub late : seq ≤ entry.sent

-- what a copy refers to is known at its node; what a letter in flight gives is known at its sender, which has a record
-- of it
pub record TargetsAreKnown (st : Setting) (w : World) : Type 0 where
  pub copies : (n x y : ℕ) (k : Known) (fields : List ViewField) → n < st.nodes → (w.state n).known x ≡ Some k → k.copy ≡ Some fields →
      Contains fields (field.Ref y) → IsSome ((w.state n).known y)
  pub letters : (n m y : ℕ) (l : Letter) → Contains (w.channel n m) l → Contains (given l.msg) y → IsSome ((w.state n).known y) × HasRecord w y n m l.seq
