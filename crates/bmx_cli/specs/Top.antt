-- What the program answers, and why.
use Rattle.std.specs.Prelude.{◌≡◌, ℕ, ◌+◌, ◌≤◌, ◌^◌, ◌⊎◌, true, false, List, [], Option, Some, None, Result, Ok, Err, length, take, drop, IfSome}
use Rattle.std.specs.Io.KnownBytes.{Appends}
use Rattle.bmx_outside.specs.Faults.{Rose}
use Rattle.bmx_outside.specs.Streams.{AppendsPart}
use Rattle.bmx_script.specs.declared.lines.Bad.{Bad}
use Rattle.bmx_script.specs.declared.lines.Line.{Line}
use Rattle.bmx_script.specs.Grammar.{IsReading}
use Rattle.bmx_world.specs.declared.runs.Run.{Run}
use Rattle.bmx_world.specs.declared.runs.RunEnd.{RunEnd}
use Rattle.bmx_world.specs.declared.runs.RunEnd.TheVariants as end
use Rattle.bmx_world.specs.declared.statuses.Status.{Status}
use Rattle.bmx_world.specs.declared.statuses.Status.TheVariants as status
use Rattle.bmx_world.specs.Texts.{has_refusal}
use Rattle.bmx_world.specs.Runs.{IsRunOf, IsEnd}
use Rattle.bmx_cli.specs.Words.{misfit_in}

-- ## the call

-- a source or a sink before a call and behind it: the bytes that it had left, or that were written to it,
-- where it tells them, and how many faults it had had
pub record Device : Type 0 where
  pub before : Option (List ℕ)
  pub behind : Option (List ℕ)
  pub faults_before : ℕ
  pub faults_behind : ℕ

-- a call of the program: the words of its command line, its source and its sink
pub record Call : Type 0 where
  pub words : List (List ℕ)
  pub source : Device
  pub sink : Device

-- its count of faults rose in the call
abbrev pub HadFault : Device → Type 0
HadFault d = Rose d.faults_before d.faults_behind

-- these bytes were written in the call
abbrev pub Wrote : Device → List ℕ → Type 0
Wrote sink text = Appends sink.before sink.behind text

-- a part of these bytes was, from their start, or all of them
abbrev pub WrotePrefix : Device → List ℕ → Type 0
WrotePrefix sink text = (n : ℕ) × Wrote sink (take n text)

-- a part of them was, but not all
abbrev pub WrotePart : Device → List ℕ → Type 0
WrotePart sink text = AppendsPart sink.before sink.behind text

-- all of them were, or a part, where the sink failed
abbrev pub WroteAsFar : Device → List ℕ → Type 0
WroteAsFar sink text = Wrote sink text ⊎ (HadFault sink × WrotePart sink text)

-- how many bytes of a script are read at most: one more than a script may have
abbrev pub read_limit : ℕ
read_limit = 2 ^ 20 + 1

-- these are the bytes that the source had left, and it was read to their end, or so far, where it tells
abbrev pub HasRead : Device → List ℕ → Type 0
HasRead source bytes = IfSome source.before (λ all. (bytes ≡ all) × (source.behind ≡ Some (drop read_limit all)))

-- the words are right, and the source's bytes are read as this: a script, or no script with its first bad line
abbrev pub Gave : Call → Result (List Line) Bad → Type 0
Gave c script = (misfit_in c.words ≡ None) × ((bytes : List ℕ) × HasRead c.source bytes × IsReading bytes script)

-- ## the run

-- the seed of a run, and how many events it may have
abbrev pub seed : ℕ
seed = 0

abbrev pub budget : ℕ
budget = 1000000

-- a run was made of the script that the source gave, by the turns of the seed, within the budget, and came to this end
pub record IsRun (c : Call) (run : Run) (e : RunEnd) : Type 0 where
  pub script : Gave c (Ok run.script)
  pub run_of : IsRunOf run.script seed run
  pub few : length run.history ≤ budget
  pub ends : IsEnd run.script budget run.history e

-- why a call answers so. Each answer stands with a run or without one; a pair that isn't listed never comes
abbrev pub Explains : Call → Status → Option Run → Type 0
Explains c (status.Usage word) None = (misfit_in c.words ≡ Some word) × Wrote c.sink []
Explains c status.ReadFault None = (misfit_in c.words ≡ None) × HadFault c.source × Wrote c.sink []
Explains c (status.BadScript bad) None = Gave c (Err bad) × Wrote c.sink []
Explains c status.NoMemory None = (misfit_in c.words ≡ None) × Wrote c.sink []
Explains c status.NoMemory (Some run) = ((e : RunEnd) × IsRun c run e) × WrotePrefix c.sink run.text
Explains c status.Done (Some run) = IsRun c run end.Ended × (has_refusal run.history ≡ false) × Wrote c.sink run.text
Explains c status.SomeRefused (Some run) = IsRun c run end.Ended × (has_refusal run.history ≡ true) × Wrote c.sink run.text
Explains c status.WriteFault (Some run) = IsRun c run end.Ended × HadFault c.sink × WrotePart c.sink run.text
Explains c status.Stuck (Some run) = IsRun c run end.Stuck × WroteAsFar c.sink run.text
Explains c status.Spent (Some run) = IsRun c run end.Spent × WroteAsFar c.sink run.text
Explains c s run = ⊥
