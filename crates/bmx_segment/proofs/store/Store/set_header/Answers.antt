use Rattle.std.proofs.Common.{◌≡◌, ℕ, List, get_or, set, sym, ap, subst, refl, ◌∙◌}
use Rattle.std.proofs.lemmas.Bool.{false≢true}
use Rattle.bmx_types.specs.Words.{index_of}
use Rattle.bmx_segment.specs.Blocks.{Block, CanStand, with_header}
use Rattle.bmx_segment.specs.Stores.{block_at, key_at, Sets}
use Rattle.bmx_segment.specs.Inside.Stores.{Mapped}
use Rattle.bmx_segment.specs.declared.headers.Header.{Header}
use Rattle.bmx_segment.proofs.Standing.{IsBlock-with_header}
use Rattle.bmx_segment.proofs.Keeping.{Sets-from}
use Rattle.bmx_segment.proofs.Stored.{of_block, for_block, no_block, no_block_at, within_there, block_there, block_now, keyed_there, IsStored-set, Puts-stored}
use Rattle.bmx_segment.proofs.store.Store.set_header.Goals as goal

pub returns-in_default-clause-ok : goal.returns-in_default-clause-ok
returns-in_default-clause-ok c =
    let now : List Block = c.args.self.now.blocks in
    let a : ℕ = c.args.address in
    let none = no_block_at now c.home.result c.segment.result a c.home.ensures c.segment.ensures.value c.in_default.ensures.none in (
      λ e. absurd (false≢true e),
      λ can. absurd (no_block (block_at now (key_at a)) (λ b. CanStand b (index_of a) c.args.header.now.name c.args.header.now.size) none can),
    )

pub returns-then-not-can_stand-clause-ok : goal.returns-then-not-can_stand-clause-ok
returns-then-not-can_stand-clause-ok c =
    let xs : List Block = c.self.inside.segments.items in
    let now : List Block = c.args.self.now.blocks in
    let same : xs ≡ now = ap (λ (s : Mapped). s.blocks) c.self.view_is in
    let a : ℕ = c.args.address in
    let place : ℕ = c.in-Some.place in
    let s : Block = c.index_mut-segment.result.now in
    let is : s ≡ get_or xs place s = c.index_mut-segment.ensures.value in
    let within = within_there xs now same c.home.result c.segment.result a place c.home.ensures c.segment.ensures.value c.in-Some.ensures.some s is in
    let at = block_there xs now same c.home.result c.segment.result a place c.home.ensures c.segment.ensures.value c.in-Some.ensures.some s is in
    let there = block_now xs now same c.home.result c.segment.result a place c.home.ensures c.segment.ensures.value c.in-Some.ensures.some s is in
    let keyed = keyed_there xs now same c.home.result c.segment.result a place c.home.ensures c.segment.ensures.value c.in-Some.ensures.some s is in
    let index : c.index-index.result ≡ index_of a = c.index-index.ensures.value in
    let x : Header = c.args.header.now in
    let C : Block → Type 0 = λ b. CanStand b (index_of a) x.name x.size in (
      λ e. absurd (false≢true e),
      λ can.
          let here = of_block (block_at now (key_at a)) s C there can in
          let yes = c.can_stand.ensures.1 (rw index here) in
          absurd (false≢true (sym c.if-not-can_stand.true ∙ yes)),
    )

pub invariant_of-self-2 : goal.invariant_of-self-2
invariant_of-self-2 c =
    let xs : List Block = c.self.inside.segments.items in
    let now : List Block = c.args.self.now.blocks in
    let same : xs ≡ now = ap (λ (s : Mapped). s.blocks) c.self.view_is in
    let a : ℕ = c.args.address in
    let place : ℕ = c.in-Some.place in
    let s : Block = c.index_mut-segment.result.now in
    let is : s ≡ get_or xs place s = c.index_mut-segment.ensures.value in
    let within = within_there xs now same c.home.result c.segment.result a place c.home.ensures c.segment.ensures.value c.in-Some.ensures.some s is in
    let at = block_there xs now same c.home.result c.segment.result a place c.home.ensures c.segment.ensures.value c.in-Some.ensures.some s is in
    let there = block_now xs now same c.home.result c.segment.result a place c.home.ensures c.segment.ensures.value c.in-Some.ensures.some s is in
    let keyed = keyed_there xs now same c.home.result c.segment.result a place c.home.ensures c.segment.ensures.value c.in-Some.ensures.some s is in
    let index : c.index-index.result ≡ index_of a = c.index-index.ensures.value in
    let x : Header = c.args.header.now in
    let C : Block → Type 0 = λ b. CanStand b (index_of a) x.name x.size in
    let can : C s = rw index at (c.can_stand.ensures.0 c.if-not-can_stand.false) in
    let t : Block = with_header s (index_of a) x in
    let block = IsBlock-with_header s (index_of a) x c.set_header.ensures.block can c.set_header.ensures.header in
    rw (c.set_header.ensures.set, index) (IsStored-set xs c.self.inside.pool.items c.self.inside.table.items c.self.inside.segments.cap c.self.inside.table.cap place s t c.self.invariant within is refl refl block)

pub returns-clause-ok : goal.returns-clause-ok
returns-clause-ok c =
    let xs : List Block = c.self.inside.segments.items in
    let now : List Block = c.args.self.now.blocks in
    let same : xs ≡ now = ap (λ (s : Mapped). s.blocks) c.self.view_is in
    let a : ℕ = c.args.address in
    let place : ℕ = c.in-Some.place in
    let s : Block = c.index_mut-segment.result.now in
    let is : s ≡ get_or xs place s = c.index_mut-segment.ensures.value in
    let within = within_there xs now same c.home.result c.segment.result a place c.home.ensures c.segment.ensures.value c.in-Some.ensures.some s is in
    let at = block_there xs now same c.home.result c.segment.result a place c.home.ensures c.segment.ensures.value c.in-Some.ensures.some s is in
    let there = block_now xs now same c.home.result c.segment.result a place c.home.ensures c.segment.ensures.value c.in-Some.ensures.some s is in
    let keyed = keyed_there xs now same c.home.result c.segment.result a place c.home.ensures c.segment.ensures.value c.in-Some.ensures.some s is in
    let index : c.index-index.result ≡ index_of a = c.index-index.ensures.value in
    let x : Header = c.args.header.now in
    let C : Block → Type 0 = λ b. CanStand b (index_of a) x.name x.size in
    let can : C s = rw index at (c.can_stand.ensures.0 c.if-not-can_stand.false) in
    (λ e. for_block (block_at now (key_at a)) s C there can, λ can. refl)

pub returns-clause-set : goal.returns-clause-set
returns-clause-set c =
    let xs : List Block = c.self.inside.segments.items in
    let now : List Block = c.args.self.now.blocks in
    let same : xs ≡ now = ap (λ (s : Mapped). s.blocks) c.self.view_is in
    let a : ℕ = c.args.address in
    let place : ℕ = c.in-Some.place in
    let s : Block = c.index_mut-segment.result.now in
    let is : s ≡ get_or xs place s = c.index_mut-segment.ensures.value in
    let within = within_there xs now same c.home.result c.segment.result a place c.home.ensures c.segment.ensures.value c.in-Some.ensures.some s is in
    let at = block_there xs now same c.home.result c.segment.result a place c.home.ensures c.segment.ensures.value c.in-Some.ensures.some s is in
    let there = block_now xs now same c.home.result c.segment.result a place c.home.ensures c.segment.ensures.value c.in-Some.ensures.some s is in
    let keyed = keyed_there xs now same c.home.result c.segment.result a place c.home.ensures c.segment.ensures.value c.in-Some.ensures.some s is in
    let index : c.index-index.result ≡ index_of a = c.index-index.ensures.value in
    let x : Header = c.args.header.now in
    let C : Block → Type 0 = λ b. CanStand b (index_of a) x.name x.size in
    let can : C s = rw index at (c.can_stand.ensures.0 c.if-not-can_stand.false) in
    let t : Block = with_header s (index_of a) x in
    let S : List Block → Type 0 = λ bs. Sets bs (set xs place t) a x in
    rw (c.set_header.ensures.set, index)
    (subst S same (Sets-from xs (set xs place t) a x s at c.set_header.ensures.block can c.set_header.ensures.header (Puts-stored xs c.self.inside.pool.items c.self.inside.table.items c.self.inside.segments.cap c.self.inside.table.cap place s t c.self.invariant within is refl refl (key_at a) keyed)))
