use Rattle.std.proofs.Common.{◌≡◌, ℕ, ◌<◌, List, get_or, set, Option, Some, sym, ap, subst, refl, arith}
use Rattle.std.specs.Prelude.{IsSomeAnd}
use Rattle.bmx_types.specs.Words.{home_of, segment_of, index_of}
use Rattle.bmx_segment.specs.Headers.{IsLive, kind_number}
use Rattle.bmx_segment.specs.Blocks.{Block, HasField, header_in, with_field}
use Rattle.bmx_segment.specs.Stores.{key_at, Writes}
use Rattle.bmx_segment.specs.Inside.Stores.{Mapped}
use Rattle.bmx_segment.specs.declared.headers.Header.{Header}
use Rattle.bmx_segment.proofs.Apart.{AreApart-from}
use Rattle.bmx_segment.proofs.Standing.{size-few}
use Rattle.bmx_segment.proofs.Fields.{header_with, IsBlock-with_field}
use Rattle.bmx_segment.proofs.Keeping.{Writes-from, header_at-in}
use Rattle.bmx_segment.proofs.Stored.{within_there, block_there, block_now, keyed_there, header_mapped, IsStored-set, Puts-stored}
use Rattle.bmx_segment.proofs.store.Store.set_field.Goals as goal

pub set_field-requires-clause-field : goal.set_field-requires-clause-field
set_field-requires-clause-field c =
    let xs : List Block = c.self.inside.segments.items in
    let now : List Block = c.args.self.now.blocks in
    let same : xs ≡ now = ap (λ (s : Mapped). s.blocks) c.self.view_is in
    let a : ℕ = c.args.address in
    let place : ℕ = c.place_at-place.result in
    let s : Block = c.index_mut-segment.result.now in
    let is : s ≡ get_or xs place s = c.index_mut-segment.ensures.value in
    let within = within_there xs now same (home_of a) (segment_of a) a place refl refl c.place_at-place.ensures.at s is in
    let at = block_there xs now same (home_of a) (segment_of a) a place refl refl c.place_at-place.ensures.at s is in
    let there = block_now xs now same (home_of a) (segment_of a) a place refl refl c.place_at-place.ensures.at s is in
    let keyed = keyed_there xs now same (home_of a) (segment_of a) a place refl refl c.place_at-place.ensures.at s is in
    let index : c.index-index.result ≡ index_of a = c.index-index.ensures.value in
    let H : Option Header → Type 0 = λ o. IsSomeAnd o (λ (h : Header). IsLive h.state × (c.args.field < h.size)) in
    let here : H (header_in s (index_of a)) = subst H (header_at-in now a (Some s) there) c.requires in
    let P : ℕ → Type 0 = λ i. HasField s i c.args.field in
    subst P (sym index) here

pub invariant_of-self : goal.invariant_of-self
invariant_of-self c =
    let xs : List Block = c.self.inside.segments.items in
    let now : List Block = c.args.self.now.blocks in
    let same : xs ≡ now = ap (λ (s : Mapped). s.blocks) c.self.view_is in
    let a : ℕ = c.args.address in
    let place : ℕ = c.place_at-place.result in
    let s : Block = c.index_mut-segment.result.now in
    let is : s ≡ get_or xs place s = c.index_mut-segment.ensures.value in
    let within = within_there xs now same (home_of a) (segment_of a) a place refl refl c.place_at-place.ensures.at s is in
    let at = block_there xs now same (home_of a) (segment_of a) a place refl refl c.place_at-place.ensures.at s is in
    let there = block_now xs now same (home_of a) (segment_of a) a place refl refl c.place_at-place.ensures.at s is in
    let keyed = keyed_there xs now same (home_of a) (segment_of a) a place refl refl c.place_at-place.ensures.at s is in
    let index : c.index-index.result ≡ index_of a = c.index-index.ensures.value in
    let H : Option Header → Type 0 = λ o. IsSomeAnd o (λ (h : Header). IsLive h.state × (c.args.field < h.size)) in
    let here : H (header_in s (index_of a)) = subst H (header_at-in now a (Some s) there) c.requires in
    let i : ℕ = index_of a in
    let n : ℕ = kind_number c.args.kind in
    let got = header_with (header_in s i) (λ h. IsLive h.state × (c.args.field < h.size)) here in
    let t : Block = with_field s i c.args.field n c.args.word in
    let block = IsBlock-with_field s i c.args.field n c.args.word c.set_field.ensures.block got.0 got.1 got.2.0 got.2.1 in
    rw (c.set_field.ensures.set, index) (IsStored-set xs c.self.inside.pool.items c.self.inside.table.items c.self.inside.segments.cap c.self.inside.table.cap place s t c.self.invariant within is refl refl block)

pub returns-clause-written : goal.returns-clause-written
returns-clause-written c =
    let xs : List Block = c.self.inside.segments.items in
    let now : List Block = c.args.self.now.blocks in
    let same : xs ≡ now = ap (λ (s : Mapped). s.blocks) c.self.view_is in
    let a : ℕ = c.args.address in
    let place : ℕ = c.place_at-place.result in
    let s : Block = c.index_mut-segment.result.now in
    let is : s ≡ get_or xs place s = c.index_mut-segment.ensures.value in
    let within = within_there xs now same (home_of a) (segment_of a) a place refl refl c.place_at-place.ensures.at s is in
    let at = block_there xs now same (home_of a) (segment_of a) a place refl refl c.place_at-place.ensures.at s is in
    let there = block_now xs now same (home_of a) (segment_of a) a place refl refl c.place_at-place.ensures.at s is in
    let keyed = keyed_there xs now same (home_of a) (segment_of a) a place refl refl c.place_at-place.ensures.at s is in
    let index : c.index-index.result ≡ index_of a = c.index-index.ensures.value in
    let H : Option Header → Type 0 = λ o. IsSomeAnd o (λ (h : Header). IsLive h.state × (c.args.field < h.size)) in
    let here : H (header_in s (index_of a)) = subst H (header_at-in now a (Some s) there) c.requires in
    let i : ℕ = index_of a in
    let n : ℕ = kind_number c.args.kind in
    let got = header_with (header_in s i) (λ h. IsLive h.state × (c.args.field < h.size)) here in
    let t : Block = with_field s i c.args.field n c.args.word in
    let few = size-few s i got.0 c.set_field.ensures.block got.1 in
    let has : c.args.field < got.0.size = got.2.1 in
    let W : List Block → Type 0 = λ bs. Writes bs (set xs place t) a c.args.field n c.args.word in
    rw (c.set_field.ensures.set, index)
    (subst W same (Writes-from xs (set xs place t) a c.args.field n c.args.word s at c.set_field.ensures.block got.0 got.1 got.2.0 has (omega arith) (Puts-stored xs c.self.inside.pool.items c.self.inside.table.items c.self.inside.segments.cap c.self.inside.table.cap place s t c.self.invariant within is refl refl (key_at a) keyed)))

pub place_at-place-requires : goal.place_at-place-requires
place_at-place-requires c = header_mapped c.args.self.now.blocks c.args.address (λ h. IsLive h.state × (c.args.field < h.size)) c.requires

pub returns-clause-apart : goal.returns-clause-apart
returns-clause-apart c = AreApart-from c.args.self.now.blocks c.place_at-place.ensures.blocks
