-- What holds of the definitions themselves.
use Rattle.std.specs.Prelude.{◌≡◌, ℕ, ◌+◌, ◌<◌, ◌≤◌, All, List, [], ◌∷◌, ◌++◌, length}
use Rattle.bmx_protocol.specs.declared.inputs.Input.{Input}
use Rattle.bmx_protocol.specs.declared.inputs.NodeAnswer.{NodeAnswer}
use Rattle.bmx_protocol.specs.declared.inputs.NodeAnswer.TheVariants as answer
use Rattle.bmx_protocol.specs.declared.inputs.Done.{Done}
use Rattle.bmx_protocol.specs.declared.events.Event.{Event}
use Rattle.bmx_protocol.specs.declared.views.View.{View}
use Rattle.bmx_protocol.specs.Nodes.{Setting, NodeState, AreAll, Shows}
use Rattle.bmx_protocol.specs.Changes.{with_step}
use Rattle.bmx_protocol.specs.Steps.{Node, Told, IsTold, IsStep}
use Rattle.bmx_protocol.specs.Histories.{AreAfter, IsLegal, IsInputOf, issued}
use Rattle.bmx_protocol.specs.Runs.Programs.{CanServe}
use Rattle.bmx_protocol.specs.Cases.{one_bunch, told_of_the_object, written_by_its_taker}

-- the answers of a step that is refused: it is stray, has nothing to serve, or may not be done
abbrev pub IsRefusal : NodeAnswer → Type 0
IsRefusal answer.Nil = ⊥
IsRefusal (answer.Value v) = ⊥
IsRefusal answer.Yes = ⊥
IsRefusal answer.No = ⊥
IsRefusal answer.Wait = ⊥
IsRefusal (answer.Refused why) = Unit {0}
IsRefusal answer.Idle = Unit {0}
IsRefusal answer.Stray = Unit {0}

-- for each node and input there is what its rule is told, and it is one
pub record ToldIsDetermined : Type 0 where
  pub some : (st : Setting) (me : ℕ) (n : Node) (i : Input) → (t : Told) × IsTold st me n i t
  pub one : (st : Setting) (me : ℕ) (n : Node) (i : Input) (t u : Told) → IsTold st me n i t → IsTold st me n i u → t ≡ u

-- the state and the outcome of a step are a function of the state, the input, its stamp, and of what its rule
-- is told; with the places themselves all of the node is
pub record StepIsDetermined : Type 0 where
  pub states : (st : Setting) (me stamp : ℕ) (i : Input) (n m n' m' : Node) (c d : Done)
      (a : IsStep st me n stamp i c n') (b : IsStep st me m stamp i d m') →
      n.state ≡ m.state → a.told ≡ b.told → (c ≡ d) × (n'.state ≡ m'.state)
  pub nodes : (st : Setting) (me stamp : ℕ) (i : Input) (n n' m' : Node) (c d : Done) →
      IsStep st me n stamp i c n' → IsStep st me n stamp i d m' → (c ≡ d) × (n' ≡ m')

-- a refused step issues no letter, and changes nothing of the node but that it is counted
abbrev pub RefusalKeeps : Type 0
RefusalKeeps =
    (st : Setting) (me stamp : ℕ) (i : Input) (n n' : Node) (d : Done) →
    IsStep st me n stamp i d n' → IsRefusal d.answer →
    (d.letters ≡ []) × (n' ≡ record n { state = with_step n.state })

-- a step that answers Wait, issues no letter and changes no entry changes nothing of the node but that it
-- is counted
abbrev pub WaitKeeps : Type 0
WaitKeeps =
    (st : Setting) (me stamp : ℕ) (i : Input) (n n' : Node) (d : Done) →
    IsStep st me n stamp i d n' → d.answer ≡ answer.Wait → d.letters ≡ [] → n'.state.known ≡ n.state.known →
    n' ≡ record n { state = with_step n.state }

-- the history of no event is legal
abbrev pub EmptyIsLegal : Type 0
EmptyIsLegal = (st : Setting) → IsLegal st []

-- each prefix of a legal history is legal
abbrev pub PrefixIsLegal : Type 0
PrefixIsLegal = (st : Setting) (past rest : List Event) → IsLegal st (past ++ rest) → IsLegal st past

-- a history leads to one world of nodes
abbrev pub ReplayIsDetermined : Type 0
ReplayIsDetermined =
    (st : Setting) (history : List Event) (nodes others : ℕ → Node) →
    AreAfter st history nodes → AreAfter st history others → nodes ≡ others

-- in a legal history the stamp of an event is at most its place, counted from 1
abbrev pub StampIsWithinPlace : Type 0
StampIsWithinPlace =
    (st : Setting) (past rest : List Event) (e : Event) → IsLegal st (past ++ e ∷ rest) → e.stamp ≤ length past + 1

-- two runs are legal: a node makes an object, stores it, and another is granted what it is stored in; and a node
-- gets ownership of an object and writes it, while another waits
abbrev pub WorkedRunsAreLegal : Type 0
WorkedRunsAreLegal = IsLegal (one_bunch 2) told_of_the_object.past × IsLegal (one_bunch 2) written_by_its_taker.past

-- a node's count of letters issued to another is how many its history issued
abbrev pub IssuedIsCounted : Type 0
IssuedIsCounted =
    (st : Setting) (history : List Event) (nodes : ℕ → Node) → AreAfter st history nodes →
    (n m : ℕ) → (nodes n).state.issued m ≡ length (issued n m history)

-- a node's state has at most one view that shows it
abbrev pub StateHasOneView : Type 0
StateHasOneView = (nodes : ℕ) (s : NodeState) (v w : View) → Shows nodes v s → Shows nodes w s → v ≡ w

-- what a step shows depends only on what is shown: nodes whose states one view shows, by an input of the
-- store, with the same told by their places, make one outcome where its letters go to nodes of the store,
-- and a view that shows the one after the step shows the other
abbrev pub ShownStepsAgree : Type 0
ShownStepsAgree =
    (st : Setting) (me stamp : ℕ) (i : Input) (n m n' m' : Node) (c d : Done) (v w : View)
    (a : IsStep st me n stamp i c n') (b : IsStep st me m stamp i d m') →
    Shows st.nodes v n.state → Shows st.nodes v m.state → a.told ≡ b.told → IsInputOf st i →
    All (λ l. l.to < st.nodes) c.letters →
    Shows st.nodes w n'.state → (c ≡ d) × Shows st.nodes w m'.state

-- after events the names that can be served at a node can be listed
abbrev pub ServedAreListed : Type 0
ServedAreListed =
    (st : Setting) (history : List Event) (nodes : ℕ → Node) → AreAfter st history nodes →
    (n : ℕ) → (names : List ℕ) × AreAll (CanServe n (nodes n).state) names
