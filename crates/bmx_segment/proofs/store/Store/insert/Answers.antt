use Rattle.std.proofs.Common.{◌≡◌, ◌≢◌, ℕ, ◌+◌, ◌-◌, ◌<◌, List, [], ◌∷◌, ◌++◌, length, get_or, take, Some, None, sym, ap, subst, ◌∙◌, arith}
use Rattle.std.specs.Prelude.{slice_index}
use Rattle.std.proofs.lemmas.List.{get_or-take, length-take}
use Rattle.std.proofs.lemmas.Option.{same_Some}
use Rattle.bmx_segment.specs.Blocks.{Block, blank_block}
use Rattle.bmx_segment.specs.Stores.{key_of, block_at, Maps}
use Rattle.bmx_segment.specs.Inside.Blocks.{IsBlock}
use Rattle.bmx_segment.specs.Inside.Stores.{Mapped, IsBlank, rank_of}
use Rattle.bmx_segment.proofs.Found.{Puts-push}
use Rattle.bmx_segment.proofs.Stored.{IsStored-push}
use Rattle.bmx_segment.proofs.Keeping.{Maps-new}
use Rattle.bmx_segment.proofs.Fields.{IsBlock-blank, renumbered-blank}
use Rattle.bmx_segment.proofs.store.Store.insert.Goals as goal

pub invariant_of-self : goal.invariant_of-self
invariant_of-self c =
    let xs : List Block = c.self.inside.segments.items in
    let pool : List Block = c.self.inside.pool.items in
    let n : ℕ = length pool in
    let counted = c.self.inside.pool.ok.0 in
    let same : xs ≡ c.args.self.now.blocks = ap (λ (s : Mapped). s.blocks) c.self.view_is in
    let stock : c.args.self.now.spare ≡ length pool = ap (λ (s : Mapped). s.spare) (sym c.self.view_is) ∙ counted in
    let spare = c.requires.spare in
    let d : Block = blank_block 0 0 in
    let b : Block = blank_block c.args.home c.args.number in
    let last : c.in-Some.segment ≡ get_or pool (n - 1) d = same_Some _ _ (c.in-Some.ensures.value d (omega arith) ∙ ap (λ (m : ℕ). Some (get_or pool (m - 1) d)) counted) in
    let popped : IsBlank c.in-Some.segment = rw last (c.self.invariant.blank (n - 1) d (omega arith)) in
    let new : c.renumber.new.self ≡ b = c.renumber.ensures ∙ renumbered-blank c.in-Some.segment c.args.home c.args.number popped in
    let items : c.push.new.self.items ≡ xs ++ b ∷ [] = c.in-Ok.ensures.items ∙ ap (λ (x : Block). xs ++ x ∷ []) new in
    let absent : block_at xs (key_of b) ≡ None = ap (λ (bs : List Block). block_at bs (key_of b)) same ∙ c.requires.absent in
    let block : IsBlock b = IsBlock-blank c.args.home c.args.number c.rank-rank.ensures.home c.requires.some c.requires.few in
    let rank : c.rank-rank.result ≡ rank_of c.args.home c.args.number = c.rank-rank.ensures.value in
    let rest : c.pop.new.self.items ≡ take (n - 1) pool = c.in-Some.ensures.rest ∙ ap (λ (m : ℕ). take (m - 1) pool) counted in
    let fewer : length c.pop.new.self.items ≡ length (take (n - 1) pool) = ap length rest in
    let taken = length-take (n - 1) pool in
    let more : c.len.result ≡ length xs + 1 = c.len.ensures ∙ (c.in-Ok.ensures.len ∙ ap (λ (m : ℕ). m + 1) c.self.inside.segments.ok.0) in
    let next : List ℕ = c.set_row.new.table.items in
    let table : List ℕ = c.self.inside.table.items in
    let here : slice_index next (rank_of c.args.home c.args.number) ≡ length xs + 1 = ap (slice_index next) (sym rank) ∙ (c.set_row.ensures.here ∙ more) in
    let others : (k : ℕ) → k ≢ rank_of c.args.home c.args.number → slice_index next k ≡ slice_index table k = λ k off. c.set_row.ensures.others k (λ e. off (e ∙ rank)) in
    rw items
    (IsStored-push xs pool c.pop.new.self.items table next c.self.inside.segments.cap c.self.inside.table.cap _ _ b c.self.invariant block absent here others
    (λ i e inside. let lt : i < n - 1 = omega arith in rw (rest, get_or-take) (c.self.invariant.blank i e (omega arith))) (omega arith) c.in-Ok.ensures.capacity c.set_row.ensures.capacity)

pub returns-clause-mapped : goal.returns-clause-mapped
returns-clause-mapped c =
    let xs : List Block = c.self.inside.segments.items in
    let pool : List Block = c.self.inside.pool.items in
    let n : ℕ = length pool in
    let counted = c.self.inside.pool.ok.0 in
    let same : xs ≡ c.args.self.now.blocks = ap (λ (s : Mapped). s.blocks) c.self.view_is in
    let stock : c.args.self.now.spare ≡ length pool = ap (λ (s : Mapped). s.spare) (sym c.self.view_is) ∙ counted in
    let spare = c.requires.spare in
    let d : Block = blank_block 0 0 in
    let b : Block = blank_block c.args.home c.args.number in
    let last : c.in-Some.segment ≡ get_or pool (n - 1) d = same_Some _ _ (c.in-Some.ensures.value d (omega arith) ∙ ap (λ (m : ℕ). Some (get_or pool (m - 1) d)) counted) in
    let popped : IsBlank c.in-Some.segment = rw last (c.self.invariant.blank (n - 1) d (omega arith)) in
    let new : c.renumber.new.self ≡ b = c.renumber.ensures ∙ renumbered-blank c.in-Some.segment c.args.home c.args.number popped in
    let items : c.push.new.self.items ≡ xs ++ b ∷ [] = c.in-Ok.ensures.items ∙ ap (λ (x : Block). xs ++ x ∷ []) new in
    let absent : block_at xs (key_of b) ≡ None = ap (λ (bs : List Block). block_at bs (key_of b)) same ∙ c.requires.absent in
    let M : List Block → Type 0 = λ bs. Maps bs (xs ++ b ∷ []) c.args.home c.args.number 1 in
    rw items (subst M same (Maps-new xs (xs ++ b ∷ []) c.args.home c.args.number absent (Puts-push xs b absent)))

pub set_row-requires : goal.set_row-requires
set_row-requires c =
    let stock : c.args.self.now.spare ≡ length c.self.inside.pool.items = ap (λ (s : Mapped). s.spare) (sym c.self.view_is) ∙ c.self.inside.pool.ok.0 in
    let spare = c.requires.spare in
    let whole = c.self.invariant.whole (omega arith) in
    let few = c.requires.few in
    let home = c.rank-rank.ensures.home in
    omega (arith, c.rank-rank.ensures.value)
