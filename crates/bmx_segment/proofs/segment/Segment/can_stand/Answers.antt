use Rattle.std.proofs.Common.{◌≡◌, ℕ, None, sym, ap, ◌∙◌, arith, refl, inl, inr}
use Rattle.std.proofs.lemmas.Bool.{false≢true, cases_eq, le-leb, leb-true}
use Rattle.bmx_segment.specs.Blocks.{header_in, is_start}
use Rattle.bmx_segment.proofs.Standing.{nothing, stands, not_start, free_of, free_alone}
use Rattle.bmx_segment.proofs.segment.Segment.can_stand.Goals as goal

pub returns-then-not-is_free : goal.returns-then-not-is_free
returns-then-not-is_free c =
    let b = c.args.self.now in
    let i : ℕ = c.args.index in
    let none : header_in b i ≡ None = nothing b i (sym c.begins.ensures.value ∙ c.if-begins.false) in (
      λ t. absurd (false≢true t),
      λ can.
          let free = c.is_free.ensures.1 (λ j low high begins. elim (cases_eq j i) [
            | inl same ↦ not_start b i none (ap (is_start b.starts) (sym same) ∙ begins)
            | inr off ↦ elim (can.alone j _ (omega arith) (stands b j begins) off) [ inl before ↦ omega arith | inr after ↦ omega arith ]
          ]) in
          absurd (false≢true (sym c.if-not-is_free.true ∙ free)),
    )

pub returns-in-Some : goal.returns-in-Some
returns-in-Some c =
    let b = c.args.self.now in
    let i : ℕ = c.args.index in
    let none : header_in b i ≡ None = nothing b i (sym c.begins.ensures.value ∙ c.if-begins.false) in
    let last = c.in-Some.ensures.some in
    let free = c.is_free.ensures.0 c.if-not-is_free.false in (
      λ t. let ends = leb-true _ _ t in free_of b i c.args.header.now.name c.args.header.now.size c.in-Some.other c.begins.ensures.block none c.if-end-gt-SEGMENT_WORDS.false free last (omega (arith, c.size_at.ensures, ends)),
      λ can.
          let far = can.alone c.in-Some.other _ (omega arith) (stands b c.in-Some.other last.1) (omega arith) in
          le-leb _ _ (elim far [ inl before ↦ omega (arith, c.size_at.ensures) | inr after ↦ absurd (omega arith) ]),
    )

pub returns-in-None : goal.returns-in-None
returns-in-None c =
    let b = c.args.self.now in
    let i : ℕ = c.args.index in
    let none : header_in b i ≡ None = nothing b i (sym c.begins.ensures.value ∙ c.if-begins.false) in
    let free = c.is_free.ensures.0 c.if-not-is_free.false in (
      λ t. free_alone b i c.args.header.now.name c.args.header.now.size c.begins.ensures.block none c.if-end-gt-SEGMENT_WORDS.false free c.in-None.ensures.none,
      λ can. refl,
    )
