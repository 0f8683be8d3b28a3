-- A phase of a run, from its first event to its end, and the phases of a script one after another.
use Rattle.std.specs.Prelude.{◌≡◌, ℕ, ◌<◌, ◌⊎◌, Bool, List, [], ◌∷◌, ◌++◌, length, slice_get, slice_set, Some, false}
use Rattle.std.specs.List.{cons_option}
use Rattle.bmx_types.specs.declared.commands.Command.{Command}
use Rattle.bmx_script.specs.declared.lines.Line.{Line}
use Rattle.bmx_script.specs.declared.lines.LineKind.TheVariants as line
use Rattle.bmx_protocol.specs.declared.events.Event.{Event}
use Rattle.bmx_protocol.specs.Runs.Programs.{Body, Order, stages, program_in, completed, RunsInPart}
use Rattle.bmx_protocol.specs.Runs.Turns.{IsSerial}
use Rattle.bmx_turns.specs.Stuck.{IsUnfinished}
use Rattle.bmx_turns.specs.Inside.Walks.{onto}
use Rattle.bmx_world.specs.declared.runs.RunEnd.{RunEnd}
use Rattle.bmx_world.specs.declared.runs.RunEnd.TheVariants as end
use Rattle.bmx_world.specs.Scripts.{body_line, body_of, setting_of_script}
use Rattle.bmx_world.specs.Runs.{IsEnd}
use Rattle.bmx_run.specs.declared.seats.Seat.{Seat}
use Rattle.bmx_run.specs.declared.runner.Runner.{Runner}
use Rattle.bmx_run.specs.Inside.Running.{Point, store_of, history_of, IsWhole, IsAt, IsStopped, IsOpen, Draws, IsGiven, IsBetween}
use Rattle.bmx_run.specs.Inside.Picking.{AreTries, Counts, ServesAll, actions_at}

-- ## one phase

-- a phase that ends quietly or not begins
pub record Starts (p : Point) (quiet : Bool) (r : Runner) : Type 0 where
  pub is_at : IsAt p r
  pub none : p.part ≡ []
  pub ends : p.stage.quiet ≡ quiet
  pub draws : Draws p.seed (length (history_of p)) r

-- a runner may go on by one of the actions that it counted, of which there are some
pub record MayGoOn (p : Point) (r : Runner) (tries : List Bool) (count : ℕ) : Type 0 where
  pub is_at : IsAt p r
  pub goes_on : IsOpen p
  pub room : length (history_of p) < r.budget
  pub draws : Draws p.seed (length (history_of p)) r
  pub known : AreTries p r tries
  pub counts : Counts p r count
  pub some : 0 < count

-- each node has completed its program of the phase
abbrev pub AreCompleted : Point → Type 0
AreCompleted p = (n : ℕ) → n < (store_of p).nodes → length (completed n p.part) ≡ length (program_in p.stage n)

-- seats with no command
pub record AreCleared (old new : List Seat) : Type 0 where
  pub each : length new ≡ length old
  pub none : (n : ℕ) (s : Seat) → slice_get new n ≡ Some s → (s.orders.items ≡ []) × (s.completed ≡ 0) × (s.waits ≡ false)

-- a phase was done, and the next one begins
pub record IsDone (p : Point) (r : Runner) : Type 0 where
  pub part : List Event
  pub between : IsBetween p.lines p.seed (p.past ++ part) [] p.rest r

-- the phase that began at p, with these events
abbrev pub with_part : Point → List Event → Point
with_part p part = record p { part = part }

-- it was left, in the midst of it
pub record IsLeft (p : Point) (r : Runner) : Type 0 where
  pub part : List Event
  pub stopped : IsStopped (with_part p part) r

-- the names that its nodes can serve are those that they list
abbrev pub ServeAll : Point → Runner → Type 0
ServeAll p r = (n : ℕ) → n < (store_of p).nodes → ServesAll p r n

-- it was left with no action enabled, and a program unfinished
pub record IsStuckThere (p : Point) (r : Runner) : Type 0 where
  pub part : List Event
  pub is_at : IsAt (with_part p part) r
  pub served : ServeAll (with_part p part) r
  pub none : actions_at (with_part p part) r ≡ []
  pub unfinished : IsUnfinished (store_of p) p.stage part

-- it was left with as many events as there may be, though it isn't done and some action is enabled
pub record IsSpentThere (p : Point) (r : Runner) : Type 0 where
  pub part : List Event
  pub is_at : IsAt (with_part p part) r
  pub spent : length (p.past ++ part) ≡ r.budget
  pub goes_on : IsOpen (with_part p part)
  pub served : ServeAll (with_part p part) r
  pub some : 0 < length (actions_at (with_part p part) r)

-- what a phase comes to
abbrev pub AfterPhase : Point → RunEnd → Runner → Type 0
AfterPhase p end.Ended r = IsDone p r
AfterPhase p end.Stuck r = IsStuckThere p r
AfterPhase p end.Spent r = IsSpentThere p r
AfterPhase p end.NoMemory r = IsLeft p r

-- ## all of them

-- a command was added to its node's program
pub record IsGivenTo (old : Runner) (order : Order) (new : Runner) : Type 0 where
  pub before : Seat
  pub behind : Seat
  pub there : slice_get old.seats.items order.node ≡ Some before
  pub seats : new.seats.items ≡ slice_set old.seats.items order.node behind
  pub orders : behind.orders.items ≡ before.orders.items ++ order ∷ []
  pub completed : behind.completed ≡ before.completed
  pub waits : behind.waits ≡ before.waits

-- it was added, or no memory was found
abbrev pub Gives : Runner → Order → RunEnd → Runner → Type 0
Gives old order e new = ((e ≡ end.Ended) × IsGivenTo old order new) ⊎ (e ≡ end.NoMemory)

-- a run of a script came to an end
pub record IsRun (lines : List Line) (seed budget : ℕ) (e : RunEnd) (r : Runner) : Type 0 where
  pub history : List Event
  pub whole : IsWhole lines history r
  pub serial : IsSerial (setting_of_script lines) seed (body_of lines) history
  pub follows : RunsInPart (setting_of_script lines) (body_of lines) history
  pub ends : IsEnd lines budget history e

-- ## line by line

-- where a run is between two lines: its script and its seed, the events so far, the commands of the phase that comes, and
-- what the lines behind give
pub record Walk : Type 0 where
  pub lines : List Line
  pub seed : ℕ
  pub past : List Event
  pub orders : List Order
  pub rest : List Body

-- a runner is there
abbrev pub IsThere : Walk → Runner → Type 0
IsThere w r = IsBetween w.lines w.seed w.past w.orders (onto w.orders (stages w.rest)) r

-- a runner comes to a line, whose command may be given
pub record ComesTo (w : Walk) (l : Line) (r : Runner) : Type 0 where
  pub there : IsThere (record w { rest = cons_option (body_line l.number l.what) w.rest }) r
  pub fits : (n : ℕ) (c : Command) → l.what ≡ line.Do n c → IsGiven (setting_of_script w.lines) (record { node = n; line = l.number; command = c })

-- it is behind the line
pub record GoesOn (w : Walk) (r : Runner) : Type 0 where
  pub past : List Event
  pub orders : List Order
  pub there : IsThere (record w { past = past; orders = orders }) r

-- it went on, or the run came to its end
abbrev pub Obeys : Walk → RunEnd → Runner → Type 0
Obeys w end.Ended r = GoesOn w r
Obeys w end.Stuck r = IsRun w.lines w.seed r.budget end.Stuck r
Obeys w end.Spent r = IsRun w.lines w.seed r.budget end.Spent r
Obeys w end.NoMemory r = IsRun w.lines w.seed r.budget end.NoMemory r
