-- A history as the plain graph sees it: the commands of all nodes with their answers, and the graph after them.
use Rattle.std.specs.Prelude.{List, filter_map, Option, Some, None}
use Rattle.std.specs.Option.{option_map, option_and_then}
use Rattle.bmx_graph.specs.State.{State, opening_state}
use Rattle.bmx_graph.specs.Step.{Act, state_after_all}
use Rattle.bmx_graph.specs.declared.answers.Answer.{Answer}
use Rattle.bmx_graph.specs.declared.answers.Answer.TheVariants as graph
use Rattle.bmx_protocol.specs.declared.inputs.NodeAnswer.{NodeAnswer}
use Rattle.bmx_protocol.specs.declared.inputs.NodeAnswer.TheVariants as answer
use Rattle.bmx_protocol.specs.declared.events.Event.{Event}
use Rattle.bmx_protocol.specs.Nodes.{Setting}
use Rattle.bmx_protocol.specs.Steps.{command_in}

-- a node's answer as one of the graph; the graph never has nothing to serve, and takes no letters
abbrev pub graph_answer : NodeAnswer → Option Answer
graph_answer answer.Nil = Some graph.Nil
graph_answer (answer.Value v) = Some (graph.Value v)
graph_answer answer.Yes = Some graph.Yes
graph_answer answer.No = Some graph.No
graph_answer answer.Wait = Some graph.Wait
graph_answer (answer.Refused why) = Some (graph.Refused why)
graph_answer answer.Idle = None
graph_answer answer.Stray = None

-- an event's command with its answer; of a serve and a letter the graph sees nothing
abbrev pub act_of : Event → Option Act
act_of e =
    option_and_then (λ c. option_map (λ a. record { node = e.node; command = c; answer = a }) (graph_answer e.done.answer)) (command_in e.input)

-- the commands of a history with their answers, in order
abbrev pub acts_of : List Event → List Act
acts_of history = filter_map act_of history

-- the graph after them, from the opening
abbrev pub graph_after : Setting → List Event → State
graph_after st history = state_after_all (opening_state st.births) (acts_of history)
