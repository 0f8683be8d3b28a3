use Rattle.std.proofs.Common.{◌<◌, sym, subst}
use Rattle.bmx_segment.specs.Heaps.{Heap, IsOpenOne}
use Rattle.bmx_segment.specs.contracts.segments.Segments.{the_view}
use Rattle.bmx_segment.proofs.Heaping.{IsHeap-opened}
use Rattle.bmx_segment.proofs.segments.Segments.make_current.Goals as goal

pub invariant_of-self : goal.invariant_of-self
invariant_of-self c =
    let h : Heap = the_view c.self.inside in
    let P : Heap → Type 0 = λ x. IsOpenOne x c.args.bunch c.args.number in
    let one : P h = subst P (sym c.self.view_is) c.requires in
    let small : c.args.bunch < 16 = rw c.get.ensures.value at c.get.ensures.bound in
    rw c.get.ensures.value (IsHeap-opened h c.args.bunch c.args.number small c.self.invariant one)
