use Rattle.std.proofs.Common.{◌≡◌, ℕ, ◌≤◌, [], length}
use Rattle.bmx_ilist.specs.Sequences.{keys_of}
use Rattle.bmx_mark.specs.Marks.{AreListed}
use Rattle.bmx_mark.proofs.mark.end_keys.Given as goal

abbrev pub invariant-loop-key : goal.invariant-loop-key
invariant-loop-key l = record {
  others : (other : ℕ) → keys_of l.initial.lists.lists other ≡ [] → keys_of l.lists.lists other ≡ [];
  len : length l.lists.lists ≡ length l.initial.lists.lists;
  spare : l.initial.lists.spare ≤ l.lists.spare;
  listed : AreListed l.initial.lists → AreListed l.lists;
}

abbrev pub decreases-loop-key : goal.decreases-loop-key
decreases-loop-key l = length (keys_of l.lists.lists l.list)
