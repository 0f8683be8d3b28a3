use Rattle.std.proofs.Common.{◌≡◌, ℕ, ◌<◌, List, length, get_or, sym, ap, ◌∙◌, subst, arith}
use Rattle.std.proofs.lemmas.List.{get_or_read}
use Rattle.bmx_segment.specs.Blocks.{Block}
use Rattle.bmx_segment.specs.Stores.{segment_key, key_of, IsAt}
use Rattle.bmx_segment.specs.Inside.Stores.{Mapped}
use Rattle.bmx_segment.proofs.Found.{block_at-at}
use Rattle.bmx_segment.proofs.Stored.{distinct}
use Rattle.bmx_segment.proofs.store.Store.at.Goals as goal

pub returns-clause-at : goal.returns-clause-at
returns-clause-at c =
    let xs : List Block = c.self.inside.segments.items in
    let i : ℕ = c.args.i in
    let same : xs ≡ c.args.self.now.blocks = ap (λ (s : Mapped). s.blocks) c.self.view_is in
    let within : i < length xs = subst (λ (bs : List Block). i < length bs) (sym same) c.requires in
    let here : Block = c.index-segment.result.now in
    let key : ℕ = segment_key c.home.result c.number.result in
    let named : key ≡ key_of here = λ j. segment_key (c.home.ensures j) (c.number.ensures.value j) in
    let keyed : (d : Block) → key_of (get_or xs i d) ≡ key = λ d. sym (named ∙ ap key_of (get_or_read xs i here within c.index-segment.ensures d)) in
    let at : IsAt xs key i = record {
      within = within;
      keyed = keyed;
      found = λ d. block_at-at xs i key d (distinct xs c.self.inside.table.items c.self.invariant.blocks c.self.invariant.lists) within (keyed d);
    } in
    subst (λ (bs : List Block). IsAt bs key i) same at

pub returns-clause-numbers : goal.returns-clause-numbers
returns-clause-numbers c =
    let block = c.number.ensures.block in
    let home = c.home.ensures in
    let number = c.number.ensures.value in
    (omega (arith, block.a_home, home), omega (arith, block.a_number, number), omega (arith, block.few_numbers, number))
