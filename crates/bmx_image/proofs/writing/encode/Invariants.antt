use Rattle.std.proofs.Common.{◌≡◌, ◌++◌, length, take}
use Rattle.std.specs.List.{flat_map}
use Rattle.bmx_image.specs.Spelling.{head_bytes, object_bytes}
use Rattle.bmx_image.proofs.writing.encode.Given as goal

abbrev pub invariant-loop-object : goal.invariant-loop-object
invariant-loop-object l = l.out.items ≡ head_bytes (length l.objects) ++ flat_map object_bytes (take l.object-index l.objects)
