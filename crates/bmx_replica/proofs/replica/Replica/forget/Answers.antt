use Rattle.std.proofs.Common.{min, sym, ap, subst, ◌∙◌}
use Rattle.bmx_segment.specs.Stores.{AreApart, Sets}
use Rattle.bmx_segment.specs.Heaps.{Heap}
use Rattle.bmx_segment.specs.declared.headers.Header.{Header}
use Rattle.bmx_segment.specs.declared.headers.State.TheVariants.{Dead}
use Rattle.bmx_replica.specs.Replicas.{Holding}
use Rattle.bmx_replica.specs.Inside.Replicas.{IsFound}
use Rattle.bmx_replica.specs.declared.directory.Slot.{Slot}
use Rattle.bmx_replica.specs.contracts.replica.Replica.{the_view}
use Rattle.bmx_replica.proofs.Done.{spare_more}
use Rattle.bmx_replica.proofs.Done.{Forgets-done}
use Rattle.bmx_replica.proofs.Forgetting.{IsReplica-forgotten}
use Rattle.bmx_replica.proofs.Spaced.{AreApart-set}
use Rattle.bmx_replica.proofs.replica.Replica.forget.Goals as goal

pub invariant_of-self : goal.invariant_of-self
invariant_of-self c =
    let r : Holding = the_view c.self.inside in
    let s : Slot = c.in-Some.found.slot in
    let h : Header = c.in-Some.found.header in
    let F : Holding → Type 0 = λ x. IsFound x.slots x.heap.blocks c.args.name s h in
    let f : F r = subst F (sym c.self.view_is) c.in-Some.ensures.found in
    let next : Holding = record { slots = c.remove.new.self.slots; heap = c.kill.new.self; spare = min c.remove.new.self.spare c.kill.new.self.spare } in
    let S : Type 0 = Sets r.heap.blocks next.heap.blocks s.address (record h { state = Dead }) in
    let sets : S = rw f.there at c.kill.ensures.set in
    let apart : AreApart r.heap.blocks = c.self.invariant.2 in
    (c.self.invariant.0 ∙ sym (ap (λ (x : Heap). x.me) c.kill.ensures.rest), IsReplica-forgotten r.slots next.slots r.heap.blocks next.heap.blocks c.args.name s h c.self.invariant.1 f apart c.remove.ensures.slots sets, AreApart-set r.heap.blocks next.heap.blocks s.address h Dead apart f.there sets)

pub returns : goal.returns
returns c =
    let r : Holding = the_view c.self.inside in
    let s : Slot = c.in-Some.found.slot in
    let h : Header = c.in-Some.found.header in
    let F : Holding → Type 0 = λ x. IsFound x.slots x.heap.blocks c.args.name s h in
    let f : F r = subst F (sym c.self.view_is) c.in-Some.ensures.found in
    let next : Holding = record { slots = c.remove.new.self.slots; heap = c.kill.new.self; spare = min c.remove.new.self.spare c.kill.new.self.spare } in
    let S : Type 0 = Sets r.heap.blocks next.heap.blocks s.address (record h { state = Dead }) in
    let sets : S = rw f.there at c.kill.ensures.set in
    let apart : AreApart r.heap.blocks = c.self.invariant.2 in
    rw (← c.self.view_is) (Forgets-done r next c.args.name s h c.self.invariant.1 f apart c.remove.ensures.slots sets c.kill.ensures.rest (spare_more _ _ _ _ c.remove.ensures.spare (ap (λ (x : Heap). x.spare) c.kill.ensures.rest)))
