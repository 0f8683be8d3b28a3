use Rattle.std.proofs.Common.{ap}
use Rattle.bmx_segment.specs.Inside.Stores.{Mapped}
use Rattle.bmx_segment.proofs.Stored.{row_at}
use Rattle.bmx_segment.proofs.store.Store.place_at.Goals as goal

pub bounds-table-rank : goal.bounds-table-rank
bounds-table-rank c =
    (row_at c.self.inside.segments.items c.args.self.now.blocks c.self.inside.table.items c.as_slice-table.result.now c.home.result c.segment.result c.args.address c.rank.result
    c.self.invariant.blocks c.self.invariant.lists (ap (λ (s : Mapped). s.blocks) c.self.view_is) c.as_slice-table.ensures.value c.rank.ensures.home c.segment.type_inv c.home.ensures c.segment.ensures.value c.rank.ensures.value c.requires).0

pub overflow_sub-result : goal.overflow_sub-result
overflow_sub-result c =
    (row_at c.self.inside.segments.items c.args.self.now.blocks c.self.inside.table.items c.as_slice-table.result.now c.home.result c.segment.result c.args.address c.rank.result
    c.self.invariant.blocks c.self.invariant.lists (ap (λ (s : Mapped). s.blocks) c.self.view_is) c.as_slice-table.ensures.value c.rank.ensures.home c.segment.type_inv c.home.ensures c.segment.ensures.value c.rank.ensures.value c.requires).1

pub returns-clause-at : goal.returns-clause-at
returns-clause-at c =
    (row_at c.self.inside.segments.items c.args.self.now.blocks c.self.inside.table.items c.as_slice-table.result.now c.home.result c.segment.result c.args.address c.rank.result
    c.self.invariant.blocks c.self.invariant.lists (ap (λ (s : Mapped). s.blocks) c.self.view_is) c.as_slice-table.ensures.value c.rank.ensures.home c.segment.type_inv c.home.ensures c.segment.ensures.value c.rank.ensures.value c.requires).2
