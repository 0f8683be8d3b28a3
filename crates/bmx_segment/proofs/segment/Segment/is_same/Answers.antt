use Rattle.std.proofs.Common.{◌≡◌, ℕ, ◌+◌, List, sym, ap, ◌∙◌, subst, eq-eqb}
use Rattle.std.specs.Prelude.{slice_index}
use Rattle.std.proofs.lemmas.Bool.{eqb-true}
use Rattle.bmx_segment.specs.Headers.{size_in}
use Rattle.bmx_segment.specs.Blocks.{Block}
use Rattle.bmx_segment.specs.Inside.Blocks.{IsBlock}
use Rattle.bmx_segment.proofs.Standing.{CanStand-same}
use Rattle.bmx_segment.proofs.segment.Segment.is_same.Goals as goal

pub returns-then-words-index : goal.returns-then-words-index
returns-then-words-index c =
    let b : Block = c.args.self.now in
    let i : ℕ = c.args.index in
    let h = c.args.header.now in
    let same : c.as_slice-words.result.now ≡ b.words = c.as_slice-words.ensures.value ∙ ap (λ (x : Block). x.words) c.self.view_is in
    let named : slice_index b.words (i + 1) ≡ h.name = ap (λ (ws : List ℕ). slice_index ws (i + 1)) (sym same) ∙ c.if-words-index.true ∙ c.word.ensures.value in
    let sized : c.size_in.result ≡ size_in (slice_index b.words i) = c.size_in.ensures ∙ ap (λ (ws : List ℕ). size_in (slice_index ws i)) same in
    let stands = CanStand-same b i h.name h.size (subst IsBlock c.self.view_is c.self.invariant.block) c.requires.begins in
    (λ t. stands.0 (named, sym sized ∙ eqb-true _ _ t), λ can. eq-eqb _ _ (sized ∙ (stands.1 can).1))

pub returns-else-words-index : goal.returns-else-words-index
returns-else-words-index c =
    let b : Block = c.args.self.now in
    let i : ℕ = c.args.index in
    let h = c.args.header.now in
    let same : c.as_slice-words.result.now ≡ b.words = c.as_slice-words.ensures.value ∙ ap (λ (x : Block). x.words) c.self.view_is in
    let stands = CanStand-same b i h.name h.size (subst IsBlock c.self.view_is c.self.invariant.block) c.requires.begins in
    (λ t. absurd (c.if-words-index.false (eqb-true _ _ t)), λ can. eq-eqb _ _ (ap (λ (ws : List ℕ). slice_index ws (i + 1)) same ∙ (stands.1 can).0 ∙ sym c.word.ensures.value))
