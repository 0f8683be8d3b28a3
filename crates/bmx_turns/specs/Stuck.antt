-- Where a run of programs can't go on.
use Rattle.std.specs.Prelude.{◌≡◌, ℕ, ◌<◌, List, [], ◌∷◌, ◌++◌, length}
use Rattle.bmx_protocol.specs.declared.events.Event.{Event}
use Rattle.bmx_protocol.specs.Nodes.{Setting, AreAll}
use Rattle.bmx_protocol.specs.Steps.{Node}
use Rattle.bmx_protocol.specs.Histories.{AreAfter}
use Rattle.bmx_protocol.specs.Runs.Programs.{Body, Stage, stages, program_in, completed, CanServe, DoAll, BeginsStage}
use Rattle.bmx_protocol.specs.Runs.Turns.{actions}

-- a node hasn't completed its program of a phase
pub record IsUnfinished (st : Setting) (stage : Stage) (part : List Event) : Type 0 where
  pub node : ℕ
  pub real : node < st.nodes
  pub short : length (completed node part) < length (program_in stage node)

-- a history is stuck: the phases before were done, one was begun, in which no action is enabled and the program of
-- some node is unfinished
pub record IsStuck (st : Setting) (body : List Body) (history : List Event) : Type 0 where
  pub past : List Event
  pub part : List Event
  pub cut : history ≡ past ++ part
  pub before : List Stage
  pub stage : Stage
  pub more : List Stage
  pub phases : stages body ≡ before ++ stage ∷ more
  pub done : DoAll st [] before past
  pub begun : BeginsStage stage part
  pub nodes : ℕ → Node
  pub lead : AreAfter st history nodes
  pub names : ℕ → List ℕ
  pub served : (n : ℕ) → n < st.nodes → AreAll (CanServe n (nodes n).state) (names n)
  pub none : actions st stage past part nodes names st.nodes ≡ []
  pub unfinished : IsUnfinished st stage part
