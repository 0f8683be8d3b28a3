use Rattle.bmx_segment.specs.Heaps.{Heap}
use Rattle.bmx_segment.specs.contracts.segments.Segments.{the_view}
use Rattle.bmx_segment.proofs.Heaping.{IsHeap-mapped, either}
use Rattle.bmx_segment.proofs.segments.Segments.map.Goals as goal

pub invariant_of-self : goal.invariant_of-self
invariant_of-self c =
    let h : Heap = the_view c.self.inside in
    either c.map.result _ _ _ c.map.ensures.ok c.map.ensures.err
    (λ ok maps. IsHeap-mapped h c.map.new.self.blocks c.map.new.self.spare c.home.result c.segment.result 1 c.self.invariant maps)
    (λ same. rw same c.self.invariant)
