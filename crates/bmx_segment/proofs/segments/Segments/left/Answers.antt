use Rattle.std.proofs.Common.{ap, arith}
use Rattle.bmx_segment.specs.Heaps.{handed_in}
use Rattle.bmx_segment.proofs.segments.Segments.left.Goals as goal

pub overflow_sub-result : goal.overflow_sub-result
overflow_sub-result c =
    let few = c.own_at.ensures.heap.handed c.args.number in
    let here = ap handed_in c.in-Some.ensures.value in
    omega arith
