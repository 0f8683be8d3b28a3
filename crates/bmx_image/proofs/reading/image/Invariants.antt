use Rattle.std.proofs.Common.{◌≡◌, length}
use Rattle.bmx_image.proofs.Steps.{ObjectsRead}
use Rattle.bmx_image.proofs.reading.image.Given as goal

abbrev pub invariant-loop-index : goal.invariant-loop-index
invariant-loop-index l = ObjectsRead l.count l.bytes l.objects l.top l.rest × (length l.objects ≡ l.index)
