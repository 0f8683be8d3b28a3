use Rattle.std.proofs.Common.{◌≡◌, ℕ, true, List, Some, None, min, sym, ap, subst, ◌∙◌}
use Rattle.bmx_segment.specs.Heaps.{Heap}
use Rattle.bmx_replica.specs.Replicas.{Holding, HandsOut, entry_of}
use Rattle.bmx_replica.specs.Inside.Slots.{PutsSlot}
use Rattle.bmx_replica.specs.declared.directory.Slot.{Slot}
use Rattle.bmx_replica.specs.contracts.replica.Replica.{the_view}
use Rattle.bmx_replica.proofs.Standing.{IsReplica-stands}
use Rattle.bmx_replica.proofs.Making.{HandsOut-me, HandsOut-spare}
use Rattle.bmx_replica.proofs.Done.{spare_one}
use Rattle.bmx_replica.proofs.Done.{Stands-made, MakesObject-done}
use Rattle.bmx_replica.proofs.replica.Replica.make.Goals as goal

pub invariant_of-self-2 : goal.invariant_of-self-2
invariant_of-self-2 c =
    let r : Holding = the_view c.self.inside in
    let at : ℕ = c.in_ok-address.address in
    let mid : Heap = c.place.new.self in
    let next : Holding = record { slots = c.add_object.new.directory.slots; heap = c.add_object.new.segments; spare = min c.add_object.new.directory.spare c.add_object.new.segments.spare } in
    let hands : HandsOut r.heap mid c.args.bunch c.args.size at = record { roomy = c.in_ok-address.ensures.roomy; fresh = c.in_ok-address.ensures.new } in
    let E : Holding → Type 0 = λ x. entry_of x c.args.name ≡ None in
    let absent : E r = subst E (sym c.self.view_is) c.requires.absent in
    let P : List (ℕ × Slot) → Type 0 = λ l. PutsSlot l next.slots c.args.name (Some (record { address = at; has_copy = true })) in
    let puts : P r.slots = subst P c.reserve.ensures.slots c.in-Ok.ensures.slots in
    let free = c.in_ok-address.ensures.free c.args.name in
    let st = Stands-made r next mid c.args.name c.args.bunch c.args.size at c.self.invariant.1 absent hands free puts c.in-Ok.ensures.laid c.in-Ok.ensures.apart in
    let me : c.add_object.new.segments.me ≡ mid.me = ap (λ (x : Heap). x.me) c.add_object.ensures.rest in
    (c.self.invariant.0 ∙ sym (me ∙ HandsOut-me r.heap mid c.args.bunch c.args.size at hands), IsReplica-stands r.slots next.slots r.heap.blocks next.heap.blocks c.args.name _ _ st, c.in-Ok.ensures.apart)

pub returns-clause-made : goal.returns-clause-made
returns-clause-made c =
    let r : Holding = the_view c.self.inside in
    let at : ℕ = c.in_ok-address.address in
    let mid : Heap = c.place.new.self in
    let next : Holding = record { slots = c.add_object.new.directory.slots; heap = c.add_object.new.segments; spare = min c.add_object.new.directory.spare c.add_object.new.segments.spare } in
    let hands : HandsOut r.heap mid c.args.bunch c.args.size at = record { roomy = c.in_ok-address.ensures.roomy; fresh = c.in_ok-address.ensures.new } in
    let E : Holding → Type 0 = λ x. entry_of x c.args.name ≡ None in
    let absent : E r = subst E (sym c.self.view_is) c.requires.absent in
    let P : List (ℕ × Slot) → Type 0 = λ l. PutsSlot l next.slots c.args.name (Some (record { address = at; has_copy = true })) in
    let puts : P r.slots = subst P c.reserve.ensures.slots c.in-Ok.ensures.slots in
    let free = c.in_ok-address.ensures.free c.args.name in
    rw (← c.self.view_is) (MakesObject-done r next mid c.args.name c.args.bunch c.args.size at c.self.invariant.1 absent hands free puts c.in-Ok.ensures.laid c.in-Ok.ensures.apart c.add_object.ensures.rest (spare_one _ _ _ _ _ c.reserve.ensures.spare c.add_object.ensures.spare (ap (λ (x : Heap). x.spare) c.add_object.ensures.rest ∙ HandsOut-spare r.heap mid c.args.bunch c.args.size at hands)))
