use Rattle.std.proofs.Common.{ℕ, IsSome, sym, subst}
use Rattle.bmx_types.specs.declared.addresses.Info.{Info}
use Rattle.bmx_segment.specs.declared.headers.Header.{Header}
use Rattle.bmx_replica.specs.Replicas.{Holding, StandsAt, entry_of}
use Rattle.bmx_replica.specs.declared.objects.Object.{Object}
use Rattle.bmx_replica.specs.contracts.replica.Replica.{the_view}
use Rattle.bmx_replica.proofs.Finding.{entry_there}
use Rattle.bmx_replica.proofs.replica.Replica.object_told.Goals as goal

pub returns-in-Some-clause-some : goal.returns-in-Some-clause-some
returns-in-Some-clause-some c =
    let r : Holding = the_view c.self.inside in
    let i : Info = c.args.info.now in
    let h : Header = c.in-Some.header in
    let live = c.is_live_of.ensures.live c.if-is_live_of.true in
    let o : Object = record { address = i.place.address; header = h } in
    let at : StandsAt r o = record { few = c.in-Some.ensures.fits.0.few; there = sym c.in-Some.ensures.value; live = live.0 } in
    rw (← c.self.view_is) (sym (subst (λ (m : ℕ). IsSome (entry_of r m)) live.1 (entry_there r o c.self.invariant.1 at)))
