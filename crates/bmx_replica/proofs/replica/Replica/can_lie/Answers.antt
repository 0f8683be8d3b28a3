use Rattle.std.proofs.Common.{◌≡◌, ℕ, IsSome, ap, subst, ◌∙◌}
use Rattle.std.specs.Prelude.{IsTrue, ◌↔◌}
use Rattle.bmx_types.specs.Words.{home_of}
use Rattle.bmx_segment.specs.declared.headers.Header.{Header}
use Rattle.bmx_segment.specs.Stores.{segment_key, block_at, key_at}
use Rattle.bmx_segment.specs.Heaps.{Heap, CanSet}
use Rattle.bmx_replica.proofs.Lying.{Readies-there}
use Rattle.bmx_replica.proofs.replica.Replica.can_lie.Goals as goal

pub returns-then-is_mapped : goal.returns-then-is_mapped
returns-then-is_mapped c =
    let h : Heap = c.self.inside.segments in
    let a : ℕ = c.args.info.now.place.address in
    let is : IsSome (block_at h.blocks (segment_key c.home.result c.segment.result)) = c.is_mapped.ensures.0 c.if-is_mapped.true in
    let same : segment_key c.home.result c.segment.result ≡ key_at a = ap (λ x. segment_key x c.segment.result) c.home.ensures ∙ ap (segment_key (home_of a)) c.segment.ensures.value in
    let P : ℕ → Type 0 = λ k. IsSome (block_at h.blocks k) in
    let rd = Readies-there h a c.args.info.now.name c.args.info.now.size (subst P same is) in
    let C : Header → Type 0 = λ x. IsTrue c.can_set.result ↔ CanSet h a x.name x.size in
    let can = subst C c.blank_header.ensures c.can_set.ensures in
    rw (← c.self.view_is) (λ t. rd.lies (can.0 t), λ l. can.1 (rd.can l))
