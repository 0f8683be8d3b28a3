use Rattle.std.proofs.Common.{◌≡◌, ℕ, Some, sym, ap, ◌∙◌}
use Rattle.bmx_segment.specs.Stores.{segment_key, key_at, block_at}
use Rattle.bmx_segment.proofs.Stored.{stands_at}
use Rattle.bmx_segment.proofs.Apart.{AreApart-from}
use Rattle.bmx_segment.proofs.store.Store.header.Goals as goal

pub returns-in_err-segment-clause-apart : goal.returns-in_err-segment-clause-apart
returns-in_err-segment-clause-apart c = AreApart-from c.args.self.now.blocks c.segment-2.ensures.blocks

pub returns-clause-apart : goal.returns-clause-apart
returns-clause-apart c = AreApart-from c.args.self.now.blocks c.segment-2.ensures.blocks

pub returns-clause-stands : goal.returns-clause-stands
returns-clause-stands c =
    let now = c.args.self.now.blocks in
    let a : ℕ = c.args.address in
    let key : segment_key c.home.result c.segment.result ≡ key_at a = λ i. segment_key (c.home.ensures i) (c.segment.ensures.value i) in
    let there : block_at now (key_at a) ≡ Some c.in_ok-segment.segment.now = ap (block_at now) (sym key) ∙ sym c.in_ok-segment.ensures.value in
    stands_at c.header.result now a c.in_ok-segment.segment.now c.index.result there c.index.ensures.value c.header.ensures.stands
