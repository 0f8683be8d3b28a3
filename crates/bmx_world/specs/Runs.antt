-- What is true of a run that was made of a script, and how it ended.
use Rattle.std.specs.Prelude.{◌≡◌, ℕ, List, [], ◌∷◌, length, slice_get, Contains, Some}
use Rattle.bmx_script.specs.declared.lines.Line.{Line}
use Rattle.bmx_types.specs.Updates.{put}
use Rattle.bmx_protocol.specs.declared.events.Event.{Event}
use Rattle.bmx_protocol.specs.Nodes.{Setting}
use Rattle.bmx_protocol.specs.Steps.{Node}
use Rattle.bmx_protocol.specs.Histories.{AreAfter, IsLegal}
use Rattle.bmx_protocol.specs.Runs.Programs.{Runs, RunsInPart}
use Rattle.bmx_protocol.specs.Runs.Turns.{IsSerial}
use Rattle.bmx_memory.specs.Meaning.{MeansWhole}
use Rattle.bmx_node.specs.Stamped.{Stamped}
use Rattle.bmx_node.specs.Seen.{node_of}
use Rattle.bmx_turns.specs.Stuck.{IsStuck}
use Rattle.bmx_world.specs.declared.runs.Run.{Run}
use Rattle.bmx_world.specs.declared.runs.RunEnd.{RunEnd}
use Rattle.bmx_world.specs.declared.runs.RunEnd.TheVariants as end
use Rattle.bmx_world.specs.Scripts.{body_of, setting_of_script}
use Rattle.bmx_world.specs.Texts.{text_of}
use Rattle.bmx_world.specs.Promises.{IsOneStore}

-- the stamps of nodes behind events: each node has that of its last one
abbrev pub stamps_behind : (ℕ → ℕ) → List Event → ℕ → ℕ
stamps_behind stamps [] = stamps
stamps_behind stamps (e ∷ events) = stamps_behind (put stamps e.node e.stamp) events

-- the nodes of a run are these, by number, as many as the store has, each with the stamp of its last event, and each word
-- at one of them means what it should: a reference leads to its object
pub record AreNodes (st : Setting) (history : List Event) (nodes : ℕ → Node) (run : List Stamped) : Type 0 where
  pub each : length run ≡ st.nodes
  pub same : (n : ℕ) (d : Stamped) → slice_get run n ≡ Some d → node_of d.holdings ≡ nodes n
  pub stamped : (n : ℕ) (d : Stamped) → slice_get run n ≡ Some d → d.stamp ≡ stamps_behind (λ _. 0) history n
  pub mean : (d : Stamped) → Contains run d → MeansWhole d.holdings.memory

-- a run of a script, as far as it went, with the turns of a seed
pub record IsRunOf (lines : List Line) (seed : ℕ) (run : Run) : Type 0 where
  -- it is of this script
  pub script : run.script ≡ lines
  -- its events are steps of the nodes from the opening of the script, in an order in which they may come
  pub legal : IsLegal (setting_of_script lines) run.history
  -- each is the turn that the seed picks
  pub serial : IsSerial (setting_of_script lines) seed (body_of lines) run.history
  -- they do the commands of the script, phase after phase, none left out
  pub follows : RunsInPart (setting_of_script lines) (body_of lines) run.history
  -- its nodes are what the events lead to
  pub after : ℕ → Node
  pub lead : AreAfter (setting_of_script lines) run.history after
  pub nodes : AreNodes (setting_of_script lines) run.history after run.nodes
  -- its text is what the events print
  pub text : run.text ≡ text_of lines run.history
  -- and the nodes are one store of shared objects
  pub store : IsOneStore (setting_of_script lines) run.history after

-- ## its end

-- a history has as many events as it may have, and isn't at the end of its script; nor is it stuck, which would be said first
pub record IsSpent (lines : List Line) (budget : ℕ) (history : List Event) : Type 0 where
  pub all : length history ≡ budget
  pub before_end : Runs (setting_of_script lines) (body_of lines) history → ⊥
  pub not_stuck : IsStuck (setting_of_script lines) (body_of lines) history → ⊥

-- a history of a script that may have so many events ended so: with the last command of the script; where nothing could go
-- on; with its last event; or for want of memory, which tells nothing
abbrev pub IsEnd : List Line → ℕ → List Event → RunEnd → Type 0
IsEnd lines budget history end.Ended = Runs (setting_of_script lines) (body_of lines) history
IsEnd lines budget history end.Stuck = IsStuck (setting_of_script lines) (body_of lines) history
IsEnd lines budget history end.Spent = IsSpent lines budget history
IsEnd lines budget history end.NoMemory = Unit {0}
