use Rattle.std.proofs.Common.{◌≡◌, ℕ, true, IsSome, sym, ap, ◌∙◌, subst, rules}
use Rattle.bmx_types.specs.Words.{home_of}
use Rattle.std.proofs.lemmas.Bool.{false≢true}
use Rattle.bmx_segment.specs.Stores.{segment_key, block_at, key_at}
use Rattle.bmx_segment.specs.Heaps.{Heap}
use Rattle.bmx_replica.specs.Layouts.{MapsFor}
use Rattle.bmx_replica.proofs.Lying.{Readies-there, Readies-mapped, none_from}
use Rattle.bmx_replica.proofs.replica.map_for.Goals as goal

pub returns-then-is_mapped-clause-ok : goal.returns-then-is_mapped-clause-ok
returns-then-is_mapped-clause-ok c =
    let h : Heap = c.args.segments.now in
    let a : ℕ = c.args.info.now.place.address in
    let is : IsSome (block_at h.blocks (segment_key c.home.result c.segment.result)) = c.is_mapped.ensures.0 c.if-is_mapped.true in
    let same : segment_key c.home.result c.segment.result ≡ key_at a = ap (λ x. segment_key x c.segment.result) c.home.ensures ∙ ap (segment_key (home_of a)) c.segment.ensures.value in
    let P : ℕ → Type 0 = λ k. IsSome (block_at h.blocks k) in
    Readies-there h a c.args.info.now.name c.args.info.now.size (subst P same is)

pub returns-clause-ok : goal.returns-clause-ok
returns-clause-ok c =
    let h : Heap = c.args.segments.now in
    let new : Heap = c.map.new.self in
    let a : ℕ = c.args.info.now.place.address in
    let same : segment_key c.home.result c.segment.result ≡ key_at a = ap (λ x. segment_key x c.segment.result) c.home.ensures ∙ ap (segment_key (home_of a)) c.segment.ensures.value in
    let P : ℕ → Type 0 = λ k. IsSome (block_at h.blocks k) in
    let not : P (key_at a) → ⊥ = λ is. false≢true (sym c.if-is_mapped.false ∙ c.is_mapped.ensures.1 (subst P (sym same) is)) in
    let handed : c.is_handed.result ≡ true = search rules in
    let within = c.is_handed.ensures.0 handed in
    let maps : MapsFor h new a = record { mapped = c.in_ok-map.ensures.ok; spare = c.in_ok-map.ensures.spare; rest = c.map.ensures.rest } in
    Readies-mapped h new a c.args.info.now.name c.args.info.now.size (none_from (block_at h.blocks (key_at a)) not) within.0 within.1 maps
