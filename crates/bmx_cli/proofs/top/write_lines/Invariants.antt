use Rattle.std.proofs.Common.{◌≡◌, ◌≤◌, ℕ, List, ◌++◌, length}
use Rattle.std.specs.Io.KnownBytes.{Appends}
use Rattle.bmx_cli.proofs.top.write_lines.Given as goal

-- what was written is what stands before the rest
abbrev pub invariant-loop-rest : goal.invariant-loop-rest
invariant-loop-rest g l =
    record {
      written : (front : List ℕ) × (front ++ l.rest ≡ l.fn.text) × Appends (g.K.Sink.out l.fn.sink) (g.K.Sink.out l.sink) front;
      counted : g.K.Sink.faults l.fn.sink ≤ g.K.Sink.faults l.sink;
    }

abbrev pub decreases-loop-rest : goal.decreases-loop-rest
decreases-loop-rest g l = length l.rest
