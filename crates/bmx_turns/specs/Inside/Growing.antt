-- A run between two phases.
use Rattle.std.specs.Prelude.{◌≡◌, ℕ, ◌<◌, List, [], ◌++◌}
use Rattle.bmx_protocol.specs.declared.events.Event.{Event}
use Rattle.bmx_protocol.specs.Nodes.{Setting}
use Rattle.bmx_protocol.specs.Runs.Programs.{Stage, completed, DoAll, DoSome}
use Rattle.bmx_protocol.specs.Runs.Turns.{TakeTurns}

-- no node of the store completes a command in events
abbrev pub IsIdle : Setting → List Event → Type 0
IsIdle st events = (n : ℕ) → n < st.nodes → completed n events ≡ []

-- events do phases after the first few of them, which complete nothing
pub record Delayed (st : Setting) (past : List Event) (rest : List Stage) (events : List Event) : Type 0 where
  pub idle : List Event
  pub later : List Event
  pub cut : events ≡ idle ++ later
  pub none : IsIdle st idle
  pub does : DoAll st (past ++ idle) rest later

-- past events did the phases before `rest`, of all phases, by serial turns: whichever phases come behind, what comes
-- behind is serial, does them or does them in part by itself, and other cuts of it end the past phases later
pub record Comes (st : Setting) (seed : ℕ) (all : List Stage) (past : List Event) (rest : List Stage) : Type 0 where
  pub before : List Stage
  pub cut : all ≡ before ++ rest
  pub done : DoAll st [] before past
  pub serial : (ss : List Stage) (events : List Event) → TakeTurns st seed past ss events → TakeTurns st seed [] (before ++ ss) (past ++ events)
  pub runs : (ss : List Stage) (events : List Event) → DoAll st past ss events → DoAll st [] (before ++ ss) (past ++ events)
  pub parts : (ss : List Stage) (events : List Event) → DoSome st past ss events → DoSome st [] (before ++ ss) (past ++ events)
  pub back : (ss : List Stage) (events : List Event) → DoAll st [] (before ++ ss) (past ++ events) → Delayed st past ss events
