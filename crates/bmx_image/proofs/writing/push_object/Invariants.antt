use Rattle.std.proofs.Common.{◌≡◌, ◌∷◌, ◌++◌, length, take}
use Rattle.std.specs.List.{flat_map}
use Rattle.bmx_image.specs.Spelling.{field_bytes}
use Rattle.bmx_image.proofs.writing.push_object.Given as goal

abbrev pub invariant-loop-field : goal.invariant-loop-field
invariant-loop-field l = l.out.items ≡ l.fn.out.items ++ (length l.fields ∷ flat_map field_bytes (take l.field-index l.fields))
