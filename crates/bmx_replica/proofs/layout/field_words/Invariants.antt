use Rattle.std.proofs.Common.{◌≡◌, ℕ, ◌+◌, ◌<◌, get_or, length}
use Rattle.bmx_segment.specs.Stores.{word_at}
use Rattle.bmx_replica.proofs.layout.field_words.Given as goal

abbrev pub invariant-loop-i : goal.invariant-loop-i
invariant-loop-i l = record {
  all : length l.words ≡ 32;
  read : (j : ℕ) → j < l.i → get_or l.words j 0 ≡ word_at l.segments.blocks (l.at + 4 + j);
}
