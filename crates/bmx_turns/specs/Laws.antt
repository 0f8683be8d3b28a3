-- What serial and stuck histories have to do with running a script.
use Rattle.std.specs.Prelude.{ℕ, List, ◌∷◌, ◌++◌}
use Rattle.bmx_protocol.specs.declared.events.Event.{Event}
use Rattle.bmx_protocol.specs.Nodes.{Setting}
use Rattle.bmx_protocol.specs.Runs.Programs.{Body, Runs, RunsInPart}
use Rattle.bmx_protocol.specs.Runs.Turns.{IsSerial}
use Rattle.bmx_turns.specs.Stuck.{IsStuck}

-- a serial history follows its script: the turn takes no command but the next one
abbrev pub SerialFollowsItsScript : Type 0
SerialFollowsItsScript = (st : Setting) (seed : ℕ) (body : List Body) (history : List Event) → IsSerial st seed body history → RunsInPart st body history

-- where a serial history has gone on, it didn't run its script yet: it ends as soon as it can
abbrev pub SerialEndsFirst : Type 0
SerialEndsFirst =
    (st : Setting) (seed : ℕ) (body : List Body) (past rest : List Event) (e : Event) →
    IsSerial st seed body (past ++ e ∷ rest) → Runs st body past → ⊥

-- a stuck history doesn't run its script
abbrev pub StuckRunsNot : Type 0
StuckRunsNot = (st : Setting) (body : List Body) (history : List Event) → IsStuck st body history → Runs st body history → ⊥

-- where a serial history has gone on, it wasn't stuck: behind a stuck one no seed has a turn
abbrev pub StuckEndsTurns : Type 0
StuckEndsTurns =
    (st : Setting) (seed : ℕ) (body : List Body) (past rest : List Event) (e : Event) →
    IsSerial st seed body (past ++ e ∷ rest) → IsStuck st body past → ⊥
