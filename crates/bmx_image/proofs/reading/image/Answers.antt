use Rattle.std.proofs.Common.{◌≡◌, ◌++◌, ◌∷◌, [], arith, refl}
use Rattle.std.proofs.lemmas.List.{length-append}
use Rattle.bmx_image.proofs.Steps.{objects_more}
use Rattle.bmx_image.proofs.reading.image.Goals as goal

pub loop-index-preserved : goal.loop-index-preserved
loop-index-preserved c =
    let objects = c.loop-index.objects in
    let read = c.in_ok-read.read in
    let pushed : c.push.new.self ≡ objects ++ read.object ∷ [] = c.in_ok-push.ensures.ok in
    let more = objects_more c.in_ok-count.count c.loop-index.index c.loop-index.top c.args.bytes.now objects c.loop-index.rest.now read read.object c.loop-index.invariant.0 c.loop-index.invariant.1 c.in_ok-read.ensures refl in
    rw pushed (more, omega (arith, length-append objects (read.object ∷ []), c.loop-index.invariant.1))
