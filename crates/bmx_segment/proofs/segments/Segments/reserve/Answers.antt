use Rattle.bmx_segment.specs.Heaps.{Heap}
use Rattle.bmx_segment.specs.contracts.segments.Segments.{the_view}
use Rattle.bmx_segment.proofs.Heaping.{IsHeap-spare, either}
use Rattle.bmx_segment.proofs.segments.Segments.reserve.Goals as goal

pub invariant_of-self : goal.invariant_of-self
invariant_of-self c =
    let h : Heap = the_view c.self.inside in
    either c.reserve.result _ _ _ c.reserve.ensures.ok c.reserve.ensures.err
    (λ ok more. rw more (IsHeap-spare h _ c.self.invariant))
    (λ same. rw same c.self.invariant)
