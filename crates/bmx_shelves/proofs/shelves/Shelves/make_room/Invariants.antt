use Rattle.std.proofs.Common.{◌≡◌, ℕ, ◌+◌, ◌≤◌, length}
use Rattle.indexmap.specs.IndexMap.{spare}
use Rattle.bmx_ilist.specs.Sequences.{keys_of}
use Rattle.bmx_shelves.specs.Shelves.{on_shelf}
use Rattle.bmx_shelves.specs.Inside.Keyed.{found, shelves_in, Sound}
use Rattle.bmx_shelves.proofs.shelves.Shelves.make_room.Given as goal

abbrev pub invariant-loop-made : goal.invariant-loop-made
invariant-loop-made g l = record {
  sound : Sound (found l.self-inside.items.entries) l.self-inside.lists.lists l.self-inside.count;
  count : l.self-inside.count ≡ length l.fn.self.shelves;
  items : (m : ℕ) → on_shelf (shelves_in (found l.self-inside.items.entries) l.self-inside.lists.lists l.self-inside.count) m ≡ on_shelf l.fn.self.shelves m;
  reserve : length (keys_of l.self-inside.lists.lists l.self-inside.count) ≡ l.fn.self.spare + l._made;
  free : l.more ≤ l._made + l.self-inside.lists.spare;
  room : l.more ≤ l._made + spare l.self-inside.items;
}
