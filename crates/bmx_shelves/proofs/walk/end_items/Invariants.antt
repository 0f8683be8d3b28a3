use Rattle.std.proofs.Common.{◌≡◌, ◌≢◌, ℕ, ◌+◌, ◌<◌, ◌≤◌, true, false, not, ◌++◌, length, filter, count_by}
use Rattle.bmx_shelves.specs.Shelves.{on_shelf}
use Rattle.bmx_shelves.proofs.walk.end_items.Given as goal

abbrev pub invariant-walk : goal.invariant-walk
invariant-walk g l =
    let ends = g.J.Judge.is_ended l.fn.judge in
    let before = on_shelf l.initial.shelves.shelves l.fn.shelf in
    let left = on_shelf l.shelves.shelves l.fn.shelf in
    record {
      many : length l.shelves.shelves ≡ length l.initial.shelves.shelves;
      others : (m : ℕ) → m ≢ l.fn.shelf → m ≢ l.fn.aside → on_shelf l.shelves.shelves m ≡ on_shelf l.initial.shelves.shelves m;
      kept : on_shelf l.shelves.shelves l.fn.aside ++ filter (λ x. not (ends x)) left ≡ filter (λ x. not (ends x)) before;
      room : l.shelves.spare + count_by ends left ≡ l.initial.shelves.spare + count_by ends before;
      none : l.any ≡ false → count_by ends left ≡ count_by ends before;
      roomier : l.initial.shelves.spare ≤ l.shelves.spare;
      some : l.any ≡ true → l.initial.shelves.spare < l.shelves.spare;
    }

abbrev pub decreases-walk : goal.decreases-walk
decreases-walk g l = length (on_shelf l.shelves.shelves l.fn.shelf)

abbrev pub invariant-back : goal.invariant-back
invariant-back g l = record {
  many : length l.shelves.shelves ≡ length l.initial.shelves.shelves;
  others : (m : ℕ) → m ≢ l.fn.shelf → m ≢ l.fn.aside → on_shelf l.shelves.shelves m ≡ on_shelf l.initial.shelves.shelves m;
  all : on_shelf l.shelves.shelves l.fn.shelf ++ on_shelf l.shelves.shelves l.fn.aside ≡ on_shelf l.initial.shelves.shelves l.fn.shelf ++ on_shelf l.initial.shelves.shelves l.fn.aside;
  room : l.shelves.spare ≡ l.initial.shelves.spare;
}

abbrev pub decreases-back : goal.decreases-back
decreases-back g l = length (on_shelf l.shelves.shelves l.fn.aside)
