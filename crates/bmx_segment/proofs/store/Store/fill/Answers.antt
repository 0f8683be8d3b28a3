use Rattle.std.proofs.Common.{◌≡◌, ℕ, List, get_or, set, Option, Some, None, IsSome, ap, subst, refl, ◌∙◌}
use Rattle.std.proofs.lemmas.Bool.{false≢true}
use Rattle.std.specs.Prelude.{slice_index}
use Rattle.bmx_types.specs.Words.{index_of}
use Rattle.bmx_segment.specs.Headers.{size_in}
use Rattle.bmx_segment.specs.Blocks.{Block, header_in}
use Rattle.bmx_segment.specs.Stores.{key_at}
use Rattle.bmx_segment.specs.Inside.Blocks.{with_words}
use Rattle.bmx_segment.specs.Inside.Stores.{Mapped, Fills}
use Rattle.bmx_segment.specs.declared.headers.Header.{Header}
use Rattle.bmx_segment.proofs.Apart.{AreApart-from}
use Rattle.bmx_segment.proofs.Standing.{start_of}
use Rattle.bmx_segment.proofs.Filling.{IsBlock-filled}
use Rattle.bmx_segment.proofs.Keeping.{Fills-from, header_at-in}
use Rattle.bmx_segment.proofs.Stored.{no_block_at, within_there, block_there, block_now, keyed_there, IsStored-set, Puts-stored}
use Rattle.bmx_segment.proofs.store.Store.fill.Goals as goal

pub unreachable-requires : goal.unreachable-requires
unreachable-requires c =
    let now : List Block = c.args.self.now.blocks in
    let a : ℕ = c.args.address in
    let none = no_block_at now c.home.result c.segment.result a c.home.ensures c.segment.ensures.value c.in_default.ensures.none in
    let H : Option Header → Type 0 = λ o. IsSome o in
    false≢true (subst H (header_at-in now a None none) c.requires.there)

pub fill-requires-clause-begins : goal.fill-requires-clause-begins
fill-requires-clause-begins c =
    let xs : List Block = c.self.inside.segments.items in
    let now : List Block = c.args.self.now.blocks in
    let same : xs ≡ now = ap (λ (s : Mapped). s.blocks) c.self.view_is in
    let a : ℕ = c.args.address in
    let place : ℕ = c.in-Some.place in
    let s : Block = c.index_mut-segment.result.now in
    let is : s ≡ get_or xs place s = c.index_mut-segment.ensures.value in
    let within = within_there xs now same c.home.result c.segment.result a place c.home.ensures c.segment.ensures.value c.in-Some.ensures.some s is in
    let at = block_there xs now same c.home.result c.segment.result a place c.home.ensures c.segment.ensures.value c.in-Some.ensures.some s is in
    let there = block_now xs now same c.home.result c.segment.result a place c.home.ensures c.segment.ensures.value c.in-Some.ensures.some s is in
    let keyed = keyed_there xs now same c.home.result c.segment.result a place c.home.ensures c.segment.ensures.value c.in-Some.ensures.some s is in
    let index : c.index-index.result ≡ index_of a = c.index-index.ensures.value in
    let H : Option Header → Type 0 = λ o. IsSome o in
    let here : H (header_in s (index_of a)) = subst H (header_at-in now a (Some s) there) c.requires.there in
    rw index (start_of s (index_of a) here).0

pub fill-requires-clause-size : goal.fill-requires-clause-size
fill-requires-clause-size c =
    let xs : List Block = c.self.inside.segments.items in
    let now : List Block = c.args.self.now.blocks in
    let same : xs ≡ now = ap (λ (s : Mapped). s.blocks) c.self.view_is in
    let a : ℕ = c.args.address in
    let place : ℕ = c.in-Some.place in
    let s : Block = c.index_mut-segment.result.now in
    let is : s ≡ get_or xs place s = c.index_mut-segment.ensures.value in
    let within = within_there xs now same c.home.result c.segment.result a place c.home.ensures c.segment.ensures.value c.in-Some.ensures.some s is in
    let at = block_there xs now same c.home.result c.segment.result a place c.home.ensures c.segment.ensures.value c.in-Some.ensures.some s is in
    let there = block_now xs now same c.home.result c.segment.result a place c.home.ensures c.segment.ensures.value c.in-Some.ensures.some s is in
    let keyed = keyed_there xs now same c.home.result c.segment.result a place c.home.ensures c.segment.ensures.value c.in-Some.ensures.some s is in
    let index : c.index-index.result ≡ index_of a = c.index-index.ensures.value in
    let H : Option Header → Type 0 = λ o. IsSome o in
    let here : H (header_in s (index_of a)) = subst H (header_at-in now a (Some s) there) c.requires.there in
    let got = start_of s (index_of a) here in
    rw index (got.1.2 ∙ c.requires.size got.1.0 (header_at-in now a (Some s) there ∙ got.1.1))

pub invariant_of-self : goal.invariant_of-self
invariant_of-self c =
    let xs : List Block = c.self.inside.segments.items in
    let now : List Block = c.args.self.now.blocks in
    let same : xs ≡ now = ap (λ (s : Mapped). s.blocks) c.self.view_is in
    let a : ℕ = c.args.address in
    let place : ℕ = c.in-Some.place in
    let s : Block = c.index_mut-segment.result.now in
    let is : s ≡ get_or xs place s = c.index_mut-segment.ensures.value in
    let within = within_there xs now same c.home.result c.segment.result a place c.home.ensures c.segment.ensures.value c.in-Some.ensures.some s is in
    let at = block_there xs now same c.home.result c.segment.result a place c.home.ensures c.segment.ensures.value c.in-Some.ensures.some s is in
    let there = block_now xs now same c.home.result c.segment.result a place c.home.ensures c.segment.ensures.value c.in-Some.ensures.some s is in
    let keyed = keyed_there xs now same c.home.result c.segment.result a place c.home.ensures c.segment.ensures.value c.in-Some.ensures.some s is in
    let index : c.index-index.result ≡ index_of a = c.index-index.ensures.value in
    let H : Option Header → Type 0 = λ o. IsSome o in
    let here : H (header_in s (index_of a)) = subst H (header_at-in now a (Some s) there) c.requires.there in
    let got = start_of s (index_of a) here in
    let size : size_in (slice_index s.words (index_of a)) ≡ c.args.size = got.1.2 ∙ c.requires.size got.1.0 (header_at-in now a (Some s) there ∙ got.1.1) in
    let t : Block = with_words s (index_of a) c.args.size c.args.words.now in
    let block = IsBlock-filled s (index_of a) c.args.size c.args.words.now c.fill.ensures.block got.0 size c.requires.enough in
    rw (c.fill.ensures.filled, index) (IsStored-set xs c.self.inside.pool.items c.self.inside.table.items c.self.inside.segments.cap c.self.inside.table.cap place s t c.self.invariant within is refl refl block)

pub returns-clause-filled : goal.returns-clause-filled
returns-clause-filled c =
    let xs : List Block = c.self.inside.segments.items in
    let now : List Block = c.args.self.now.blocks in
    let same : xs ≡ now = ap (λ (s : Mapped). s.blocks) c.self.view_is in
    let a : ℕ = c.args.address in
    let place : ℕ = c.in-Some.place in
    let s : Block = c.index_mut-segment.result.now in
    let is : s ≡ get_or xs place s = c.index_mut-segment.ensures.value in
    let within = within_there xs now same c.home.result c.segment.result a place c.home.ensures c.segment.ensures.value c.in-Some.ensures.some s is in
    let at = block_there xs now same c.home.result c.segment.result a place c.home.ensures c.segment.ensures.value c.in-Some.ensures.some s is in
    let there = block_now xs now same c.home.result c.segment.result a place c.home.ensures c.segment.ensures.value c.in-Some.ensures.some s is in
    let keyed = keyed_there xs now same c.home.result c.segment.result a place c.home.ensures c.segment.ensures.value c.in-Some.ensures.some s is in
    let index : c.index-index.result ≡ index_of a = c.index-index.ensures.value in
    let H : Option Header → Type 0 = λ o. IsSome o in
    let here : H (header_in s (index_of a)) = subst H (header_at-in now a (Some s) there) c.requires.there in
    let got = start_of s (index_of a) here in
    let size : size_in (slice_index s.words (index_of a)) ≡ c.args.size = got.1.2 ∙ c.requires.size got.1.0 (header_at-in now a (Some s) there ∙ got.1.1) in
    let t : Block = with_words s (index_of a) c.args.size c.args.words.now in
    let F : List Block → Type 0 = λ bs. Fills bs (set xs place t) a c.args.size c.args.words.now in
    rw (c.fill.ensures.filled, index)
    (subst F same (Fills-from xs (set xs place t) a c.args.size c.args.words.now s at c.fill.ensures.block got.0 size c.requires.enough (Puts-stored xs c.self.inside.pool.items c.self.inside.table.items c.self.inside.segments.cap c.self.inside.table.cap place s t c.self.invariant within is refl refl (key_at a) keyed)))

pub returns-clause-apart : goal.returns-clause-apart
returns-clause-apart c = AreApart-from c.args.self.now.blocks c.place_of.ensures.blocks
