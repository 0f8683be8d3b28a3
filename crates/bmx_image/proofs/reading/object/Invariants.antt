use Rattle.std.proofs.Common.{◌≡◌, length}
use Rattle.bmx_image.proofs.Steps.{FieldsRead}
use Rattle.bmx_image.proofs.reading.object.Given as goal

abbrev pub invariant-loop : goal.invariant-loop
invariant-loop l = FieldsRead l.before l.bytes l.size l.fields.items l.top l.rest × (length l.fields.items ≡ l.counter)
