use Rattle.std.proofs.Common.{◌≡◌, ℕ, ◌<◌, Some, length, map, take, slice_get}
use Rattle.std.specs.Prelude.{slice_index}
use Rattle.bmx_types.specs.declared.values.Val.{Val}
use Rattle.bmx_replica.specs.Layouts.{kinds_of}
use Rattle.bmx_replica.specs.Replicas.{word_in}
use Rattle.bmx_replica.specs.Letters.{values_told}
use Rattle.bmx_replica.specs.Inside.Replicas.{IsHeld}
use Rattle.bmx_replica.proofs.replica.Replica.words_told.Given as goal

-- the kinds and the words of the fields so far
abbrev pub invariant-loop-i : goal.invariant-loop-i
invariant-loop-i l = record {
  all : length l.words ≡ 32;
  kinds : l.kinds ≡ kinds_of (map (word_in l.self) (values_told (take l.i l.fields)));
  held : (j : ℕ) (v : Val) → j < l.i → slice_get (values_told l.fields) j ≡ Some v → IsHeld l.self v (slice_index l.words j);
}
