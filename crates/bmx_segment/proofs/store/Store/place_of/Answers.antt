use Rattle.std.proofs.Common.{ℕ, List, ap}
use Rattle.std.specs.Prelude.{slice_index, IfSome, IfNone, ◌+◌, ◌≡◌}
use Rattle.bmx_segment.specs.Inside.Stores.{Mapped}
use Rattle.bmx_segment.proofs.Stored.{found_of, none_of}
use Rattle.bmx_segment.proofs.store.Store.place_of.Goals as goal

pub returns-clause-some : goal.returns-clause-some
returns-clause-some c =
    let table : List ℕ = c.self.inside.table.items in
    let tells : IfSome c.place_in.result (λ i. slice_index table c.rank.result ≡ i + 1) = rw c.as_slice.ensures.value at c.place_in.ensures.some in
    found_of c.place_in.result c.self.inside.segments.items c.args.self.now.blocks table c.args.home c.args.number c.rank.result c.self.invariant.blocks c.self.invariant.lists
    (ap (λ (s : Mapped). s.blocks) c.self.view_is) c.rank.ensures.home c.rank.ensures.value tells

pub returns-clause-none : goal.returns-clause-none
returns-clause-none c =
    let table : List ℕ = c.self.inside.table.items in
    let tells : IfNone c.place_in.result (slice_index table c.rank.result ≡ 0) = rw c.as_slice.ensures.value at c.place_in.ensures.none in
    none_of c.place_in.result c.self.inside.segments.items c.args.self.now.blocks table c.args.home c.args.number c.rank.result c.self.invariant.blocks c.self.invariant.lists
    (ap (λ (s : Mapped). s.blocks) c.self.view_is) c.ranges.number.fits c.rank.ensures.value tells
