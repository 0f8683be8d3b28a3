use Rattle.std.proofs.Common.{◌≡◌, ℕ, ◌+◌, ◌-◌, ◌/◌, ◌%◌, ◌<◌, List, sym, ap, ◌∙◌, inl, inr, arith}
use Rattle.std.specs.Prelude.{slice_index, ◌==◌}
use Rattle.std.proofs.lemmas.Bool.{cases_lt}
use Rattle.bmx_segment.specs.Blocks.{Block, is_start}
use Rattle.bmx_segment.proofs.Starts.{is_start-by, bit_at-shr}
use Rattle.bmx_segment.proofs.segment.Segment.starts_from.Goals as goal
use Rattle.bmx_segment.proofs.segment.Segment.starts_from.Goals.{then-bit-eq0-via-then-bit-eq0, then-bit-eq0-via-else-bit-eq0+then-place-eq16}

pub returns-then-bit-eq0 : goal.returns-then-bit-eq0
returns-then-bit-eq0 c = λ j less all.
    let i : ℕ = c.args.index in
    let starts : List ℕ = c.self.inside.starts in
    let same : c.args.self.now.starts ≡ starts = ap (λ (b : Block). b.starts) (sym c.self.view_is) in
    let low : i % 64 + j < 64 =
    elim c.then-bit-eq0.branch [
      | then-bit-eq0-via-then-bit-eq0 w ↦ omega (arith, w.if-bit-eq0.true)
      | then-bit-eq0-via-else-bit-eq0+then-place-eq16 w ↦ omega (arith, w.if-place-eq16.true)
    ] in
    ap (λ (l : List ℕ). is_start l (i + j)) same
    ∙ (is_start-by starts (i + j) (i / 64) (i % 64 + j) (omega arith) (omega arith)
    ∙ ap (λ m. m == 1) (sym (bit_at-shr (slice_index starts (i / 64)) (i % 64) j)))

pub returns : goal.returns
returns c = λ j less all.
    let i : ℕ = c.args.index in
    let starts : List ℕ = c.self.inside.starts in
    let same : c.args.self.now.starts ≡ starts = ap (λ (b : Block). b.starts) (sym c.self.view_is) in
    elim (cases_lt (i % 64 + j) 64) [
      | inl low ↦
          ap (λ (l : List ℕ). is_start l (i + j)) same
          ∙ (is_start-by starts (i + j) (i / 64) (i % 64 + j) (omega arith) (omega arith) ∙ ap (λ m. m == 1) (sym (c.joined.ensures.low j low)))
      | inr high ↦
          ap (λ (l : List ℕ). is_start l (i + j)) same
          ∙ (is_start-by starts (i + j) (i / 64 + 1) (i % 64 + j - 64) (omega arith) (omega arith) ∙ ap (λ m. m == 1) (sym (c.joined.ensures.high j less high)))
    ]
