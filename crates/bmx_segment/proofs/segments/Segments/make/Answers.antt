use Rattle.std.proofs.Common.{◌≡◌, ℕ, ◌+◌, ◌≤◌, sym, ap, subst, ◌∙◌}
use Rattle.bmx_segment.specs.Stores.{Maps}
use Rattle.bmx_segment.specs.Heaps.{Heap, made_of}
use Rattle.bmx_segment.specs.contracts.segments.Segments.{the_view}
use Rattle.bmx_segment.proofs.Heaping.{IsHeap-made}
use Rattle.bmx_segment.proofs.segments.Segments.make.Goals as goal

pub invariant_of-self-2 : goal.invariant_of-self-2
invariant_of-self-2 c =
    let h : Heap = the_view c.self.inside in
    let Few : Heap → Type 0 = λ x. made_of x + c.args.more ≤ 65535 in
    let few : Few h = subst Few (sym c.self.view_is) c.requires in
    let first : c.made-first.result ≡ made_of h = c.made-first.ensures.value ∙ ap made_of (sym c.self.view_is) in
    let P : ℕ → Type 0 = λ k. Maps h.blocks c.map_range.new.self.blocks h.me (k + 1) c.args.more in
    let maps : P (made_of h) = subst P first c.in_ok-map_range.ensures.ok in
    rw (c.push_all.ensures, c.in_ok-reserve.ensures.items, c.in_ok-map_range.ensures.spare)
    (IsHeap-made h c.map_range.new.self.blocks c.args.bunch c.args.more c.self.invariant few maps)
