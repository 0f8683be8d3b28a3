use Rattle.std.proofs.Common.{length}
use Rattle.bmx_script.specs.Grammar.{IsReading, lines_of}
use Rattle.bmx_script.specs.Inside.Reader.{ReadsOn, IsSound}
use Rattle.bmx_script.proofs.scripts.read_script.Given as goal

abbrev pub invariant-loop-rest : goal.invariant-loop-rest
invariant-loop-rest l = record {
  on : (answer : _) → ReadsOn l.reader (lines_of l.rest) answer → IsReading l.bytes answer;
  sound : IsSound l.reader;
}

abbrev pub decreases-loop-rest : goal.decreases-loop-rest
decreases-loop-rest l = length l.rest
