use Rattle.std.proofs.Common.{◌≡◌, ap, ◌∙◌, arith}
use Rattle.bmx_segment.specs.Heaps.{made_of}
use Rattle.bmx_replica.specs.Replicas.{Holding}
use Rattle.bmx_memory.specs.Shown.{shown}
use Rattle.bmx_memory.proofs.tests.birth.Goals as goal

pub make_birth-requires-clause-more : goal.make_birth-requires-clause-more
unfolding shown
make_birth-requires-clause-more c =
    let count = c.made-made.ensures.value in
    let same : made_of c.segments.result.now ≡ made_of c.args.memory.now.replica.heap = ap made_of (c.segments.ensures.heap ∙ ap (λ (r : Holding). r.heap) c.replica.ensures.value) in
    let few = c.if-made-ge65535.false in
    omega (arith, count, same, few)
