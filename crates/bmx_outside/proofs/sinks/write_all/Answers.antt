use Rattle.std.proofs.Common.{arith}
use Rattle.std.proofs.lemmas.Grind.{common_steps}
use Rattle.std.proofs.lemmas.List.{take_rest}
use Rattle.bmx_outside.proofs.Streams.{Appends-take_add}
use Rattle.bmx_outside.proofs.sinks.write_all.Goals as goal

pub loop-at-preserved : goal.loop-at-preserved
loop-at-preserved g c =
    record {
      in_range = grind (arith, common_steps);
      written = Appends-take_add _ _ _ _ _ _ c.loop-at.invariant.written (rw take_rest at c.in_ok-count.ensures.bytes);
      counted = omega arith;
      empty = λ none. absurd (omega arith);
    }
