use Rattle.std.proofs.Common.{◌≡◌, ℕ, List, get_or, set, Some, None, sym, ap, subst, refl, ◌∙◌}
use Rattle.bmx_types.specs.Words.{index_of}
use Rattle.bmx_segment.specs.Blocks.{Block, CanStand, header_in, with_header}
use Rattle.bmx_segment.specs.Stores.{header_at, key_at, Sets}
use Rattle.bmx_segment.specs.Inside.Stores.{Mapped}
use Rattle.bmx_segment.specs.declared.headers.Header.{Header}
use Rattle.bmx_segment.proofs.Standing.{IsBlock-with_header, CanStand-there}
use Rattle.bmx_segment.proofs.Keeping.{Sets-from, header_at-in}
use Rattle.bmx_segment.proofs.Stored.{no_block_at, within_there, block_there, block_now, keyed_there, IsStored-set, Puts-stored}
use Rattle.bmx_segment.proofs.store.Store.set_state.Goals as goal

pub set_header-requires-clause-free : goal.set_header-requires-clause-free
set_header-requires-clause-free c =
    CanStand-there _ _ _ _ c.in-Some-header.there c.header.ensures.block (sym c.in-Some-header.ensures.value) refl refl

pub returns-in_default-clause-set : goal.returns-in_default-clause-set
returns-in_default-clause-set c =
    let now : List Block = c.args.self.now.blocks in
    let a : ℕ = c.args.address in
    let none = no_block_at now c.home.result c.segment.result a c.home.ensures c.segment.ensures.value c.in_default.ensures.none in
    let nothing : header_at now a ≡ None = header_at-in now a None none in
    rw nothing

pub invariant_of-self-2 : goal.invariant_of-self-2
invariant_of-self-2 c =
    let xs : List Block = c.self.inside.segments.items in
    let now : List Block = c.args.self.now.blocks in
    let same : xs ≡ now = ap (λ (s : Mapped). s.blocks) c.self.view_is in
    let a : ℕ = c.args.address in
    let place : ℕ = c.in-Some.place in
    let s : Block = c.index_mut-segment.result.now in
    let is : s ≡ get_or xs place s = c.index_mut-segment.ensures.value in
    let within = within_there xs now same c.home.result c.segment.result a place c.home.ensures c.segment.ensures.value c.in-Some.ensures.some s is in
    let at = block_there xs now same c.home.result c.segment.result a place c.home.ensures c.segment.ensures.value c.in-Some.ensures.some s is in
    let there = block_now xs now same c.home.result c.segment.result a place c.home.ensures c.segment.ensures.value c.in-Some.ensures.some s is in
    let keyed = keyed_there xs now same c.home.result c.segment.result a place c.home.ensures c.segment.ensures.value c.in-Some.ensures.some s is in
    let index : c.index-index.result ≡ index_of a = c.index-index.ensures.value in
    let o : Header = c.in-Some-header.there in
    let x : Header = record o { state = c.args.state } in
    let e : header_in s (index_of a) ≡ Some o = ap (header_in s) (sym index) ∙ sym c.in-Some-header.ensures.value in
    let can : CanStand s (index_of a) x.name x.size = CanStand-there s (index_of a) x.name x.size o c.header.ensures.block e refl refl in
    let t : Block = with_header s (index_of a) x in
    let block = IsBlock-with_header s (index_of a) x c.set_header.ensures.block can c.set_header.ensures.header in
    rw (c.set_header.ensures.set, index) (IsStored-set xs c.self.inside.pool.items c.self.inside.table.items c.self.inside.segments.cap c.self.inside.table.cap place s t c.self.invariant within is refl refl block)

pub returns-clause-set : goal.returns-clause-set
returns-clause-set c =
    let xs : List Block = c.self.inside.segments.items in
    let now : List Block = c.args.self.now.blocks in
    let same : xs ≡ now = ap (λ (s : Mapped). s.blocks) c.self.view_is in
    let a : ℕ = c.args.address in
    let place : ℕ = c.in-Some.place in
    let s : Block = c.index_mut-segment.result.now in
    let is : s ≡ get_or xs place s = c.index_mut-segment.ensures.value in
    let within = within_there xs now same c.home.result c.segment.result a place c.home.ensures c.segment.ensures.value c.in-Some.ensures.some s is in
    let at = block_there xs now same c.home.result c.segment.result a place c.home.ensures c.segment.ensures.value c.in-Some.ensures.some s is in
    let there = block_now xs now same c.home.result c.segment.result a place c.home.ensures c.segment.ensures.value c.in-Some.ensures.some s is in
    let keyed = keyed_there xs now same c.home.result c.segment.result a place c.home.ensures c.segment.ensures.value c.in-Some.ensures.some s is in
    let index : c.index-index.result ≡ index_of a = c.index-index.ensures.value in
    let o : Header = c.in-Some-header.there in
    let x : Header = record o { state = c.args.state } in
    let e : header_in s (index_of a) ≡ Some o = ap (header_in s) (sym index) ∙ sym c.in-Some-header.ensures.value in
    let can : CanStand s (index_of a) x.name x.size = CanStand-there s (index_of a) x.name x.size o c.header.ensures.block e refl refl in
    let t : Block = with_header s (index_of a) x in
    let S : List Block → Type 0 = λ bs. Sets bs (set xs place t) a x in
    let header : header_at now a ≡ Some o = header_at-in now a (Some s) there ∙ e in
    rw (header, c.set_header.ensures.set, index)
    (subst S same (Sets-from xs (set xs place t) a x s at c.set_header.ensures.block can c.set_header.ensures.header
    (Puts-stored xs c.self.inside.pool.items c.self.inside.table.items c.self.inside.segments.cap c.self.inside.table.cap place s t c.self.invariant within is refl refl (key_at a) keyed)))
