use Rattle.std.proofs.Common.{ℕ, ◌+◌, ◌-◌, ◌^◌, ◌<◌, refl, ap, ◌∙◌, arith}
use Rattle.std.specs.Int.{w64, bit_at, trailing_zeros}
use Rattle.std.proofs.lemmas.Bool.{le-leb, leb-true, cases_lt}
use Rattle.std.proofs.lemmas.Nat.Bits.{bit_at-zero}
use Rattle.std.proofs.Common.{inl, inr}
use Rattle.bmx_segment.proofs.Starts.{none_at, free_below, begins_below}
use Rattle.bmx_segment.proofs.segment.Segment.is_free.Goals as goal

pub returns-then-begins-eq0 : goal.returns-then-begins-eq0
returns-then-begins-eq0 c = (
  λ t j low high. none_at c.args.self.now.starts c.args.index c.starts_from-begins.result c.starts_from-begins.ensures j low (omega arith) (omega arith)
      (ap (λ n. bit_at n (j - c.args.index)) c.if-begins-eq0.true ∙ bit_at-zero (j - c.args.index)),
  λ none. refl,
)

pub returns : goal.returns
returns c =
    let i : ℕ = c.args.index in
    let bits : ℕ = c.starts_from-begins.result in
    let starts = c.args.self.now.starts in
    let says = c.starts_from-begins.ensures in
    let some : 0 < bits = omega (arith, c.if-begins-eq0.false) in
    let small : bits < 2 ^ 64 = c.starts_from-begins.type_inv in (
      λ t. free_below starts i bits says c.args.end some small c.requires.few c.requires.inside (leb-true _ _ t),
      λ none. elim (cases_lt (i + trailing_zeros w64 bits) c.args.end) [
        | inl before ↦ absurd (none (i + trailing_zeros w64 bits) (omega arith) before (begins_below starts i bits says c.args.end some small c.requires.inside before))
        | inr beyond ↦ le-leb _ _ beyond
      ],
    )
