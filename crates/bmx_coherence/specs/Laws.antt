-- What programs see of every legal history of a store: the plain graph, whatever the interleaving.
use Rattle.std.specs.Prelude.{◌≡◌, ℕ, List, ◌∷◌, ◌++◌, map, Contains, true, None, Some, IfSome, IsSome, ◌↔◌}
use Rattle.std.specs.Option.{option_map_or}
use Rattle.bmx_types.specs.Openings.{IsOpening}
use Rattle.bmx_types.specs.declared.values.Val.{Val}
use Rattle.bmx_types.specs.declared.addresses.Info.{Info}
use Rattle.bmx_types.specs.declared.commands.Command.TheVariants as command
use Rattle.bmx_types.specs.declared.commands.Refusal.TheVariants as refusal
use Rattle.bmx_graph.specs.State.{State, opening_state}
use Rattle.bmx_graph.specs.Step.{IsRun}
use Rattle.bmx_msg.specs.declared.letters.Field.{Field}
use Rattle.bmx_msg.specs.declared.letters.Letter.{Letter}
use Rattle.bmx_protocol.specs.declared.inputs.Input.TheVariants as input
use Rattle.bmx_protocol.specs.declared.inputs.NodeAnswer.TheVariants as answer
use Rattle.bmx_protocol.specs.declared.events.Event.{Event}
use Rattle.bmx_protocol.specs.Nodes.{Setting, fields_known, value_in}
use Rattle.bmx_protocol.specs.Places.{is_full}
use Rattle.bmx_protocol.specs.Rules.{heard_field, grant_in}
use Rattle.bmx_protocol.specs.Steps.{Node, command_in}
use Rattle.bmx_protocol.specs.Histories.{AreAfter, IsLegal}
use Rattle.bmx_protocol.specs.Worlds.{World, world_of}
use Rattle.bmx_coherence.specs.Graphs.{act_of, acts_of, graph_after}
use Rattle.bmx_coherence.specs.Waits.{WantsAreWaitedFor}
use Rattle.bmx_coherence.specs.Copies.{AreCurrent, TargetsAreKnown}
use Rattle.bmx_coherence.specs.Stuck.{StuckNamesHolders}

-- ## runs

-- the commands of a history, each with its answer, are steps of the plain graph from the opening
pub record IsGraphRun (st : Setting) (history : List Event) : Type 0 where
  pub each : (e : Event) → Contains history e → IfSome (command_in e.input) (λ c. IsSome (act_of e))
  pub run : IsRun (opening_state st.births) (acts_of history)

-- every legal history is a run of the graph
abbrev pub EveryHistoryIsAGraphRun : Type 0
EveryHistoryIsAGraphRun = (st : Setting) (history : List Event) → IsOpening st.nodes st.limit st.births → IsLegal st history → IsGraphRun st history

-- the one answer that the graph doesn't give comes exactly where the node has made all its segments, and the open one
-- of the bunch lacks room
abbrev pub FullIsAtTheLimit : Type 0
FullIsAtTheLimit =
    (st : Setting) (past rest : List Event) (e : Event) (nodes : ℕ → Node) (register bunch size : ℕ) →
    IsLegal st (past ++ e ∷ rest) → AreAfter st past nodes → e.input ≡ input.Do (command.New register bunch size) →
    (e.done.answer ≡ answer.Refused refusal.Full) ↔ (is_full st.limit (nodes e.node).places bunch size ≡ true)

-- ## nodes and the graph

-- what holds after each legal history of a store
abbrev pub Throughout : (Setting → List Event → World → Type 0) → Type 0
Throughout Holds =
    (st : Setting) (history : List Event) (nodes : ℕ → Node) →
    IsOpening st.nodes st.limit st.births → IsLegal st history → AreAfter st history nodes → Holds st history (world_of nodes history)

-- registers, tokens that are held and names made are the graph's, and so are the fields of each copy and of each grant
-- in flight
pub record HasGraph (w : World) (g : State) : Type 0 where
  pub registers : (n r : ℕ) → (w.state n).register r ≡ g.register n r
  pub held : (n x : ℕ) → option_map_or (λ k. k.part.held) ((w.state n).known x) None ≡ g.held n x
  pub made : (n : ℕ) → (w.state n).made ≡ g.made n
  pub copies : (n x : ℕ) (fields : List Val) → fields_known ((w.state n).known x) ≡ Some fields → g.object x ≡ Some fields
  pub grants : (n m : ℕ) (l : Letter) (info : Info) (fields : List Field) → Contains (w.channel n m) l → grant_in l.msg ≡ Some (info, fields) →
      g.object info.name ≡ Some (map (λ f. value_in (heard_field f)) fields)

-- nodes have the graph
abbrev pub NodesHaveTheGraph : Type 0
NodesHaveTheGraph = Throughout (λ st history w. HasGraph w (graph_after st history))

-- each name that was made or is reached has its current copy at its owner
abbrev pub CopiesAreCurrent : Type 0
CopiesAreCurrent = Throughout (λ st history w. AreCurrent st w (graph_after st history))

-- what copies and letters refer to is known
abbrev pub TargetsStand : Type 0
TargetsStand = Throughout (λ st history w. TargetsAreKnown st w)

-- ## waiting

-- a node wants the one name that it waits for
abbrev pub EachWaitsForItsWant : Type 0
EachWaitsForItsWant = Throughout (λ st history w. WantsAreWaitedFor st w history)

-- where nothing can go on, each name that is waited for is held by another node
abbrev pub StuckNodesNameHolders : Type 0
StuckNodesNameHolders = Throughout (λ st history w. StuckNamesHolders st w history)
