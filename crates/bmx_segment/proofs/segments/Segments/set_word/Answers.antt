use Rattle.bmx_segment.specs.Heaps.{Heap}
use Rattle.bmx_segment.specs.contracts.segments.Segments.{the_view}
use Rattle.bmx_segment.specs.Headers.{kind_number}
use Rattle.bmx_segment.proofs.Heaping.{IsHeap-written}
use Rattle.bmx_segment.proofs.segments.Segments.set_word.Goals as goal

pub invariant_of-self : goal.invariant_of-self
invariant_of-self c =
    let h : Heap = the_view c.self.inside in
    IsHeap-written h c.set_field.new.self.blocks c.set_field.new.self.spare c.args.address c.args.i (kind_number c.args.kind) c.args.w c.self.invariant c.set_field.ensures.written

pub returns-clause-apart : goal.returns-clause-apart
returns-clause-apart c = rw (← c.self.view_is) c.set_field.ensures.apart
