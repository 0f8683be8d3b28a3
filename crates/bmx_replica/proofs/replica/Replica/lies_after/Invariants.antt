use Rattle.std.proofs.Common.{take}
use Rattle.bmx_replica.specs.Layouts.{LiesOn}
use Rattle.bmx_replica.specs.Letters.{infos_told, sketch_of}
use Rattle.bmx_replica.specs.Inside.Letters.{after}
use Rattle.bmx_replica.proofs.replica.Replica.lies_after.Given as goal

-- the object can lie there after the Infos so far
abbrev pub invariant-loop-place : goal.invariant-loop-place
invariant-loop-place l = LiesOn (after (sketch_of l.self) (infos_told l.object (take l.place l.fields))).ground l.info.place.address l.info.name l.info.size
