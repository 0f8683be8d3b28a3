use Rattle.std.proofs.Common.{arith}
use Rattle.std.proofs.lemmas.Grind.{common_steps}
use Rattle.std.proofs.lemmas.Result.{err_from_is_err_and}
use Rattle.bmx_outside.proofs.Streams.{Consumes-both}
use Rattle.bmx_outside.proofs.sources.read_to_limit.Goals as goal

pub returns-in_err-extend_from_slice-clause-lost :
    goal.returns-in_err-extend_from_slice-clause-lost
returns-in_err-extend_from_slice-clause-lost g c =
    let p = err_from_is_err_and c.from_residual-in_err-extend_from_slice.result c.from_residual-in_err-extend_from_slice.ensures.1 in
    rw p.1 (Consumes-both _ _ _ _ _ _ _ c.loop-piece.invariant.read c.in_ok-count.ensures.bytes (grind (arith, common_steps)))
