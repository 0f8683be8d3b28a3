-- How the text of a run is written, and how the program ends by it.
use Rattle.std.specs.Prelude.{◌≡◌, Bool, true, false, Result, Ok, Err}
use Rattle.bmx_outside.specs.declared.sinks.SinkError.{SinkError}
use Rattle.bmx_outside.specs.declared.sinks.SinkError.TheVariants as fault
use Rattle.bmx_world.specs.declared.runs.Run.{Run}
use Rattle.bmx_world.specs.declared.runs.RunEnd.{RunEnd}
use Rattle.bmx_world.specs.declared.runs.RunEnd.TheVariants as end
use Rattle.bmx_world.specs.declared.statuses.Status.{Status}
use Rattle.bmx_world.specs.declared.statuses.Status.TheVariants as status
use Rattle.bmx_world.specs.Texts.{has_refusal}
use Rattle.bmx_cli.specs.Top.{Device, HadFault, Wrote, WrotePrefix, WrotePart, WroteAsFar}

-- how the program ends: by how the run ended, how its text was written, and whether a command was refused
abbrev pub status_after : RunEnd → Result (Unit {0}) SinkError → Bool → Status
status_after end.NoMemory wrote refused = status.NoMemory
status_after e (Err fault.NoMemory) refused = status.NoMemory
status_after end.Stuck wrote refused = status.Stuck
status_after end.Spent wrote refused = status.Spent
status_after end.Ended (Ok done) true = status.SomeRefused
status_after end.Ended (Ok done) false = status.Done
status_after end.Ended (Err fault.Failed) refused = status.WriteFault

-- why the program ends so once a run was made, whose text is written to this sink
abbrev pub Ends : Run → RunEnd → Device → Status → Type 0
Ends run end.Ended sink status.Done = (has_refusal run.history ≡ false) × Wrote sink run.text
Ends run end.Ended sink status.SomeRefused = (has_refusal run.history ≡ true) × Wrote sink run.text
Ends run end.Ended sink status.WriteFault = HadFault sink × WrotePart sink run.text
Ends run end.Stuck sink status.Stuck = WroteAsFar sink run.text
Ends run end.Spent sink status.Spent = WroteAsFar sink run.text
Ends run e sink status.NoMemory = WrotePrefix sink run.text
Ends run e sink s = ⊥
