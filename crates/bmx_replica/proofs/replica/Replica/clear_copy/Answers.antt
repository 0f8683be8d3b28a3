use Rattle.std.proofs.Common.{◌≡◌, ℕ, min, get_or, replicate, sym, ap, subst, ◌∙◌}
use Rattle.bmx_segment.specs.Stores.{Lays}
use Rattle.bmx_segment.specs.Heaps.{Heap}
use Rattle.bmx_segment.specs.declared.headers.Header.{Header}
use Rattle.bmx_segment.specs.declared.headers.State.TheVariants.{Live}
use Rattle.bmx_replica.specs.Layouts.{moves_in}
use Rattle.bmx_replica.specs.Replicas.{Holding}
use Rattle.bmx_replica.specs.Inside.Replicas.{IsFound}
use Rattle.bmx_replica.specs.declared.directory.Slot.{Slot}
use Rattle.bmx_replica.specs.contracts.replica.Replica.{the_view}
use Rattle.bmx_replica.proofs.Standing.{IsReplica-stands}
use Rattle.bmx_replica.proofs.Done.{spare_same}
use Rattle.bmx_replica.proofs.Done.{Stands-cleared, ClearsCopy-done}
use Rattle.bmx_replica.proofs.replica.Replica.clear_copy.Goals as goal

pub invariant_of-self : goal.invariant_of-self
invariant_of-self c =
    let r : Holding = the_view c.self.inside in
    let s : Slot = c.in-Some.found.slot in
    let h : Header = c.in-Some.found.header in
    let F : Holding → Type 0 = λ x. IsFound x.slots x.heap.blocks c.args.name s h in
    let f : F r = subst F (sym c.self.view_is) c.in-Some.ensures.found in
    let next : Holding = record { slots = c.set.new.self.slots; heap = c.lay.new.self; spare = min c.set.new.self.spare c.lay.new.self.spare } in
    let moves : c.in-Live.moves ≡ moves_in h.state = sym (ap moves_in c.in-Live.is) in
    let Z : ℕ → Type 0 = λ m. Lays r.heap.blocks c.lay.new.self.blocks s.address (record h { state = Live m 0 }) (λ j. get_or (replicate 32 0) j 0) in
    let lays : Z (moves_in h.state) = subst Z moves c.in-Ok.ensures.laid in
    let st = Stands-cleared r next c.args.name s h c.self.invariant.1 f c.set.ensures.slots lays c.in-Ok.ensures.apart in
    (c.self.invariant.0 ∙ sym (ap (λ (x : Heap). x.me) c.in-Ok.ensures.rest), IsReplica-stands r.slots next.slots r.heap.blocks next.heap.blocks c.args.name _ _ st, c.in-Ok.ensures.apart)

pub returns : goal.returns
returns c =
    let r : Holding = the_view c.self.inside in
    let s : Slot = c.in-Some.found.slot in
    let h : Header = c.in-Some.found.header in
    let F : Holding → Type 0 = λ x. IsFound x.slots x.heap.blocks c.args.name s h in
    let f : F r = subst F (sym c.self.view_is) c.in-Some.ensures.found in
    let next : Holding = record { slots = c.set.new.self.slots; heap = c.lay.new.self; spare = min c.set.new.self.spare c.lay.new.self.spare } in
    let moves : c.in-Live.moves ≡ moves_in h.state = sym (ap moves_in c.in-Live.is) in
    let Z : ℕ → Type 0 = λ m. Lays r.heap.blocks c.lay.new.self.blocks s.address (record h { state = Live m 0 }) (λ j. get_or (replicate 32 0) j 0) in
    let lays : Z (moves_in h.state) = subst Z moves c.in-Ok.ensures.laid in
    rw (← c.self.view_is) (ClearsCopy-done r next c.args.name s h c.self.invariant.1 f c.set.ensures.slots lays c.in-Ok.ensures.apart c.in-Ok.ensures.rest (spare_same _ _ _ _ c.set.ensures.spare (ap (λ (x : Heap). x.spare) c.in-Ok.ensures.rest)))
