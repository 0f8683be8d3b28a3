-- No two headers share a word.
use Rattle.std.proofs.Common.{◌≡◌, ℕ, ◌+◌, ◌<◌, ◌≤◌, List, [], ◌∷◌, Some, suc, arith, sym, ap, ◌∙◌, inl, inr, subst, eq-eqb}
use Rattle.std.specs.Prelude.{slice_index}
use Rattle.std.proofs.lemmas.Bool.{cases_eq, ne_eqb}
use Rattle.std.proofs.lemmas.Option.{cond_some, none-some, same_Some, option_and_then_some}
use Rattle.bmx_types.specs.Words.{index_of}
use Rattle.bmx_segment.specs.Headers.{size_in}
use Rattle.bmx_segment.specs.Blocks.{Block, header_in}
use Rattle.bmx_segment.specs.Stores.{key_of, key_at, block_at, header_at, AreApart}
use Rattle.bmx_segment.specs.Inside.Blocks.{IsBlock}
use Rattle.bmx_segment.specs.Inside.Stores.{AreBlocks}
use Rattle.bmx_segment.specs.declared.headers.Header.{Header}
use Rattle.bmx_segment.proofs.Standing.{size-few}

blocks-tail : (b : Block) (bs : List Block) → AreBlocks (b ∷ bs) → AreBlocks bs
blocks-tail b bs blocks = λ i d within. blocks (suc i) d (omega arith)

-- what is found is a block
block-found : (bs : List Block) (key : ℕ) (b : Block) → AreBlocks bs → block_at bs key ≡ Some b → IsBlock b
block-found [] key b blocks e = absurd (none-some b e)
block-found (c ∷ cs) key b blocks e =
    elim (cases_eq (key_of c) key) [
      | inl same ↦
          let one : c ≡ b = same_Some c b (rw (eq-eqb (key_of c) key same) at e) in
          let P : Block → Type 0 = IsBlock in subst P one (blocks 0 c (omega arith))
      | inr other ↦ block-found cs key b (blocks-tail c cs blocks) (rw (ne_eqb (key_of c) key other) at e)
    ]

-- where a header stands in a block
in_block : (bs : List Block) (a : ℕ) (x : Header) → header_at bs a ≡ Some x → (b : Block) × (block_at bs (key_at a) ≡ Some b) × (header_in b (index_of a) ≡ Some x)
in_block bs a x e = option_and_then_some (λ (b : Block). header_in b (index_of a)) (block_at bs (key_at a)) x e (λ b is there. (b, is, there))

apart-in : (b : Block) (i j : ℕ) (x y : Header) → IsBlock b → header_in b i ≡ Some x → header_in b j ≡ Some y → i < j → i + 4 + x.size ≤ j
apart-in b i j x y block ex ey lt =
    let s = cond_some _ _ _ ex in
    let t = cond_some _ _ _ ey in
    let has : size_in (slice_index b.words i) ≡ x.size = ap (λ (h : Header). h.size) s.1 in
    let far = block.apart i j s.0 t.0 lt in
    omega arith

pub AreApart-from : (bs : List Block) → AreBlocks bs → AreApart bs
AreApart-from bs blocks = λ a c x y ex ey lt.
    let p = in_block bs a x ex in
    let q = in_block bs c y ey in
    let block = block-found bs (key_at a) p.0 blocks p.1 in
    let few = size-few p.0 (index_of a) x block p.2 in
    elim (cases_eq (key_at a) (key_at c)) [
      | inl same ↦
          let one : p.0 ≡ q.0 = same_Some p.0 q.0 (sym p.1 ∙ (ap (block_at bs) same ∙ q.1)) in
          let there : header_in p.0 (index_of c) ≡ Some y = ap (λ (b : Block). header_in b (index_of c)) one ∙ q.2 in
          let low : index_of a < index_of c = omega arith in
          let far = apart-in p.0 (index_of a) (index_of c) x y block p.2 there low in
          omega arith
      | inr other ↦ omega arith
    ]
