use Rattle.std.proofs.Common.{refl}
use Rattle.bmx_segment.specs.Heaps.{Heap}
use Rattle.bmx_segment.specs.contracts.segments.Segments.{the_view}
use Rattle.bmx_segment.specs.Stores.{header_at}
use Rattle.bmx_segment.proofs.Heaping.{IsHeap-restated}
use Rattle.bmx_segment.specs.declared.headers.State.TheVariants.{Dead}
use Rattle.bmx_segment.proofs.segments.Segments.kill.Goals as goal

pub invariant_of-self : goal.invariant_of-self
invariant_of-self c =
    let h : Heap = the_view c.self.inside in
    IsHeap-restated (header_at h.blocks c.args.address) h c.set_state.new.self c.args.address Dead c.self.invariant refl c.set_state.ensures.set
