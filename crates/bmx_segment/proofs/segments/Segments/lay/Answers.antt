use Rattle.std.proofs.Common.{List, sym, ap, subst, ◌∙◌}
use Rattle.bmx_segment.specs.Blocks.{Block}
use Rattle.bmx_segment.specs.Inside.Stores.{Fills}
use Rattle.bmx_segment.specs.Heaps.{Heap}
use Rattle.bmx_segment.specs.contracts.segments.Segments.{the_view}
use Rattle.bmx_segment.proofs.Heaping.{IsHeap-filled}
use Rattle.bmx_segment.proofs.Keeping.{Lays-from}
use Rattle.bmx_segment.proofs.segments.Segments.lay.Goals as goal

pub invariant_of-self : goal.invariant_of-self
invariant_of-self c =
    let h : Heap = the_view c.self.inside in
    IsHeap-filled h c.fill.new.self.blocks c.fill.new.self.spare c.args.address c.args.header.now.size c.args.words.now c.self.invariant c.fill.ensures.filled

pub returns-clause-laid : goal.returns-clause-laid
returns-clause-laid c =
    let F : List Block → Type 0 = λ bs. Fills bs c.fill.new.self.blocks c.args.address c.args.header.now.size c.args.words.now in
    let filled : F c.set_header.new.self.blocks = subst F (ap (λ (h : Heap). h.blocks) c.self.view_is) c.fill.ensures.filled in
    Lays-from c.args.self.now.blocks c.set_header.new.self.blocks c.fill.new.self.blocks c.args.address c.args.header.now c.args.words.now c.in_ok-set_header.ensures.set filled

pub returns-clause-apart : goal.returns-clause-apart
returns-clause-apart c = λ a b x y ex ey lt.
    c.fill.ensures.apart a b x y (sym (c.fill.ensures.filled.headers a) ∙ ex) (sym (c.fill.ensures.filled.headers b) ∙ ey) lt
