use Rattle.std.proofs.Common.{◌≡◌, ℕ, Option, Some, None, IsSome, ap, refl}
use Rattle.std.proofs.lemmas.Bool.{false≢true}
use Rattle.bmx_segment.specs.Headers.{kind_number}
use Rattle.bmx_segment.specs.Stores.{header_at}
use Rattle.bmx_segment.specs.declared.headers.Header.{Header}
use Rattle.bmx_replica.proofs.Chained.{Means-from, name_at-from}
use Rattle.bmx_replica.proofs.replica.Replica.value.Goals as goal

-- a header that there is
found : (o : Option Header) → IsSome o → (h : Header) × (o ≡ Some h)
found None is = absurd (false≢true is)
found (Some h) is = (h, refl)

pub unreachable-requires : goal.unreachable-requires
unreachable-requires c =
    let r = c.args.self.now in
    let w : ℕ = c.args.word.word in
    let two : kind_number c.args.word.kind ≡ 2 = ap kind_number c.in-Ref.is in
    let h = found (header_at r.heap.blocks w) (c.requires.there two) in
    c.in-None.ensures.none h.0.name (Means-from r.slots r.heap.blocks c.in-None.ensures.replica w h.0.name (c.requires.address two) (name_at-from r.heap.blocks w h.0 h.1))

pub returns-in-Some : goal.returns-in-Some
returns-in-Some c = rw c.in-Ref.is (rw (c.in-Some.ensures.header) refl)
