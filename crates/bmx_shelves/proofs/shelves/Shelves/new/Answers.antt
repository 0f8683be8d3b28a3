use Rattle.std.proofs.Common.{◌+◌, ap, ◌∙◌}
use Rattle.bmx_shelves.specs.Shelves.{on_shelf}
use Rattle.bmx_shelves.specs.Inside.Keyed.{found, shelves_in}
use Rattle.bmx_shelves.proofs.Calls.{shelf_none}
use Rattle.bmx_shelves.proofs.shelves.Shelves.new.Goals as goal

pub returns-clause-empty : goal.returns-clause-empty
returns-clause-empty g c = λ m.
    ap (λ lists. on_shelf (shelves_in (found c.new-2.result.entries) lists c.args.count) m) c.in-Ok.ensures.lists
    ∙ shelf_none (found c.new-2.result.entries) (c.args.count + 1) c.args.count m
