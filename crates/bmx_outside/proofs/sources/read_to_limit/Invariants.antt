use Rattle.std.proofs.Common.{◌-◌, ◌≤◌, vec_len}
use Rattle.std.specs.Io.KnownBytes.{Consumes}
use Rattle.bmx_outside.proofs.sources.read_to_limit.Given as goal

abbrev pub invariant-loop-piece : goal.invariant-loop-piece
invariant-loop-piece g l =
    record {
      in_range : vec_len l.bytes ≤ l.limit;
      read : Consumes (g.S.Source.left l.fn.source) (g.S.Source.left l.source) l.bytes.items;
      counted : g.S.Source.faults l.fn.source ≤ g.S.Source.faults l.source;
    }

abbrev pub decreases-loop-piece : goal.decreases-loop-piece
decreases-loop-piece g l = l.limit - vec_len l.bytes
