use Rattle.std.proofs.Common.{◌≡◌, ℕ, ◌+◌, ◌-◌, ◌%◌, List, sym, ap, ◌∙◌, arith}
use Rattle.std.specs.Prelude.{slice_index, ◌==◌}
use Rattle.std.specs.Int.{bit_at}
use Rattle.std.proofs.lemmas.Nat.{one_shl}
use Rattle.bmx_segment.specs.Blocks.{Block, is_start}
use Rattle.bmx_segment.proofs.Starts.{is_start-by, bit_at-low}
use Rattle.bmx_segment.proofs.segment.Segment.starts_before.Goals as goal

pub returns-else-index-ge-BITS-clause-bits : goal.returns-else-index-ge-BITS-clause-bits
returns-else-index-ge-BITS-clause-bits c = λ j before.
    let i : ℕ = c.args.index in
    let starts : List ℕ = c.self.inside.starts in
    let same : c.args.self.now.starts ≡ starts = ap (λ (b : Block). b.starts) (sym c.self.view_is) in
    let unit = one_shl i 64 (omega (arith, c.if-index-ge-BITS.false)) in
    let lt = c.if-index-ge-BITS.false in
    ap (λ (l : List ℕ). is_start l (i - 64 + j)) same
    ∙ (is_start-by starts (i - 64 + j) 0 j (omega arith) (omega arith)
    ∙ ap (λ m. m == 1) (sym (ap (λ u. bit_at (slice_index starts 0 % u) j) unit ∙ bit_at-low (slice_index starts 0) i j (omega arith))))
