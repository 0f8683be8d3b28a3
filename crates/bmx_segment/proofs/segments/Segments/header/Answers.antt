use Rattle.bmx_segment.specs.Heaps.{Heap}
use Rattle.bmx_segment.specs.contracts.segments.Segments.{the_view}
use Rattle.bmx_segment.proofs.Heaping.{can_set}
use Rattle.bmx_segment.proofs.segments.Segments.header.Goals as goal

pub returns-clause-stands : goal.returns-clause-stands
returns-clause-stands c =
    let h : Heap = the_view c.self.inside in
    rw (← c.self.view_is) (can_set c.header.result h c.args.address c.self.invariant c.header.ensures.value c.header.ensures.stands)
