use Rattle.std.proofs.Common.{ℕ, IsSome, sym, subst}
use Rattle.bmx_types.specs.declared.addresses.Info.{Info}
use Rattle.bmx_segment.specs.declared.headers.Header.{Header}
use Rattle.bmx_replica.specs.Replicas.{Holding, StandsAt, entry_of}
use Rattle.bmx_replica.specs.Inside.Replicas.{IsFound, Tells}
use Rattle.bmx_replica.specs.declared.objects.Object.{Object}
use Rattle.bmx_replica.specs.contracts.replica.Replica.{the_view}
use Rattle.bmx_replica.proofs.Done.{Learns-old}
use Rattle.bmx_replica.proofs.Finding.{entry_there, found_of}
use Rattle.bmx_replica.proofs.replica.Replica.knows.Goals as goal

pub returns-in-Some-clause-learned : goal.returns-in-Some-clause-learned
returns-in-Some-clause-learned c = λ t.
    let r : Holding = the_view c.self.inside in
    let i : Info = c.args.info.now in
    let h : Header = c.in-Some.header in
    let k : Tells h i = c.tells.ensures t in
    let o : Object = record { address = i.place.address; header = h } in
    let at : StandsAt r o = record { few = c.in-Some.ensures.fits.0.few; there = sym c.in-Some.ensures.value; live = k.live } in
    let f = found_of r o c.self.invariant.1 at in
    rw (← c.self.view_is) (Learns-old r i f.0 h (subst (λ (m : ℕ). IsFound r.slots r.heap.blocks m f.0 h) k.named f.2) k.bunch k.size k.old)

pub returns-in-Some-clause-known : goal.returns-in-Some-clause-known
returns-in-Some-clause-known c = λ t.
    let r : Holding = the_view c.self.inside in
    let i : Info = c.args.info.now in
    let h : Header = c.in-Some.header in
    let k : Tells h i = c.tells.ensures t in
    let o : Object = record { address = i.place.address; header = h } in
    let at : StandsAt r o = record { few = c.in-Some.ensures.fits.0.few; there = sym c.in-Some.ensures.value; live = k.live } in
    rw (← c.self.view_is) (subst (λ (m : ℕ). IsSome (entry_of r m)) k.named (entry_there r o c.self.invariant.1 at))
