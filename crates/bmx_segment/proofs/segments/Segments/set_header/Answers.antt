use Rattle.std.proofs.Common.{◌≡◌, ℕ, ◌+◌, ◌≤◌, sym, subst}
use Rattle.bmx_segment.specs.Heaps.{Heap, CanSet, handed_of}
use Rattle.bmx_segment.specs.contracts.segments.Segments.{the_view}
use Rattle.bmx_segment.proofs.Heaping.{IsHeap-set, either}
use Rattle.bmx_types.specs.Words.{home_of, segment_of, index_of}
use Rattle.bmx_segment.specs.declared.headers.Header.{Header}
use Rattle.bmx_segment.proofs.segments.Segments.set_header.Goals as goal

pub invariant_of-self : goal.invariant_of-self
invariant_of-self c =
    let h : Heap = the_view c.self.inside in
    let a : ℕ = c.args.address in
    let x : Header = c.args.header.now in
    let P : Heap → Type 0 = λ y. home_of a ≡ y.me → index_of a + 4 + x.size ≤ handed_of y (segment_of a) in
    let handed : P h = subst P (sym c.self.view_is) (c.has_handed.ensures.0 c.if-not-has_handed.false) in
    either c.set_header.result _ _ _ c.set_header.ensures.set c.set_header.ensures.err
    (λ ok sets.
    let can : CanSet h a x.name x.size = record { stands = c.set_header.ensures.ok.0 ok; handed = handed } in
    IsHeap-set h c.set_header.new.self.blocks c.set_header.new.self.spare a x c.self.invariant can sets)
    (λ same. rw same c.self.invariant)
