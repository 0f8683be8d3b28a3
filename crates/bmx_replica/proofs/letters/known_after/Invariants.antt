use Rattle.std.proofs.Common.{◌≡◌, take}
use Rattle.bmx_replica.specs.Letters.{infos_told}
use Rattle.bmx_replica.specs.Inside.Letters.{known_after}
use Rattle.bmx_replica.proofs.letters.known_after.Given as goal

-- what is known after the fields so far
abbrev pub invariant-loop-field : goal.invariant-loop-field
invariant-loop-field l = l.known ≡ known_after l.fn.known l.name (infos_told l.object (take l.field-index l.fields))
