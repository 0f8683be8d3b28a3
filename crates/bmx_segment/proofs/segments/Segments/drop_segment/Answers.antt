use Rattle.std.proofs.Common.{◌≡◌, sym, ap, subst, arith}
use Rattle.bmx_segment.specs.Heaps.{Heap, IsOpen}
use Rattle.bmx_segment.specs.contracts.segments.Segments.{the_view}
use Rattle.bmx_segment.proofs.Heaping.{IsHeap-dropped}
use Rattle.bmx_segment.proofs.Keeping.{Drops-from}
use Rattle.bmx_segment.proofs.segments.Segments.drop_segment.Goals as goal

pub invariant_of-self : goal.invariant_of-self
invariant_of-self c =
    let h : Heap = the_view c.self.inside in
    let P : Heap → Type 0 = λ x. IsOpen x c.args.home c.args.number → ⊥ in
    let closed : P h = subst P (sym c.self.view_is) c.requires.closed in
    IsHeap-dropped h c.remove.new.self.blocks c.remove.new.self.spare c.args.home c.args.number c.self.invariant closed (omega arith)
    (Drops-from h.blocks c.remove.new.self.blocks c.args.home c.args.number c.remove.ensures.blocks)

pub returns-clause-blocks : goal.returns-clause-blocks
returns-clause-blocks c =
    let same : c.args.self.now.blocks ≡ c.self.inside.store.blocks = ap (λ (x : Heap). x.blocks) (sym c.self.view_is) in
    rw same (Drops-from c.self.inside.store.blocks c.remove.new.self.blocks c.args.home c.args.number c.remove.ensures.blocks)

pub returns-clause-listed : goal.returns-clause-listed
returns-clause-listed c =
    let same : c.args.self.now.blocks ≡ c.self.inside.store.blocks = ap (λ (x : Heap). x.blocks) (sym c.self.view_is) in
    rw same c.remove.ensures.listed
