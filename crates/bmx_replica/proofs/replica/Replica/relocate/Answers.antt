use Rattle.std.proofs.Common.{◌≡◌, ◌≢◌, ℕ, ◌+◌, Some, IsSomeAnd, min, sym, ap, subst, ◌∙◌, arith}
use Rattle.bmx_segment.specs.Stores.{header_at}
use Rattle.bmx_segment.specs.Heaps.{Heap}
use Rattle.bmx_segment.specs.declared.headers.Header.{Header}
use Rattle.bmx_replica.specs.Layouts.{Moves, moves_in}
use Rattle.bmx_replica.specs.Replicas.{Holding, CanMove, entry_of, entry_in}
use Rattle.bmx_replica.specs.Inside.Slots.{PutsSlot}
use Rattle.bmx_replica.specs.Inside.Replicas.{IsFound}
use Rattle.bmx_replica.specs.declared.directory.Slot.{Slot}
use Rattle.bmx_replica.specs.contracts.replica.Replica.{the_view}
use Rattle.bmx_replica.proofs.Standing.{IsReplica-stands}
use Rattle.bmx_replica.proofs.Fielded.{entry_at-found}
use Rattle.bmx_replica.proofs.Changing.{CanSet-same}
use Rattle.bmx_replica.proofs.Done.{spare_same}
use Rattle.bmx_replica.proofs.Done.{Stands-relocated, MovesObject-done}
use Rattle.bmx_replica.proofs.replica.Replica.relocate.Goals as goal

pub re_place-requires-clause-apart : goal.re_place-requires-clause-apart
re_place-requires-clause-apart c =
    let r : Holding = the_view c.self.inside in
    let s : Slot = c.in-Some.found.slot in
    let h : Header = c.in-Some.found.header in
    let F : Holding → Type 0 = λ x. IsFound x.slots x.heap.blocks c.args.name s h in
    let f : F r = subst F (sym c.self.view_is) c.in-Some.ensures.found in
    let Q : Holding → Type 0 = λ x. IsSomeAnd (entry_of x c.args.name) (λ e. CanMove x.heap c.args.to e) in
    let can : Q r = subst Q (sym c.self.view_is) c.requires in
    let move : CanMove r.heap c.args.to (entry_in r.heap.blocks s h) = rw (entry_at-found r.slots r.heap.blocks c.args.name s h f) at can in
    λ e. let t = CanSet-same r.heap c.args.to (h.name + 1) h.size h (move.free (h.name + 1)) (ap (header_at r.heap.blocks) (sym e) ∙ f.there) in omega arith

pub invariant_of-self : goal.invariant_of-self
invariant_of-self c =
    let r : Holding = the_view c.self.inside in
    let s : Slot = c.in-Some.found.slot in
    let h : Header = c.in-Some.found.header in
    let F : Holding → Type 0 = λ x. IsFound x.slots x.heap.blocks c.args.name s h in
    let f : F r = subst F (sym c.self.view_is) c.in-Some.ensures.found in
    let Q : Holding → Type 0 = λ x. IsSomeAnd (entry_of x c.args.name) (λ e. CanMove x.heap c.args.to e) in
    let can : Q r = subst Q (sym c.self.view_is) c.requires in
    let move : CanMove r.heap c.args.to (entry_in r.heap.blocks s h) = rw (entry_at-found r.slots r.heap.blocks c.args.name s h f) at can in
    let apart : s.address ≢ c.args.to = λ e. let t = CanSet-same r.heap c.args.to (h.name + 1) h.size h (move.free (h.name + 1)) (ap (header_at r.heap.blocks) (sym e) ∙ f.there) in absurd (omega arith) in
    let before : (t : Header) → header_at r.heap.blocks c.args.to ≡ Some t → t.name ≡ c.args.name = λ t e. (CanSet-same r.heap c.args.to c.args.name h.size t (move.free c.args.name) e).0 in
    let next : Holding = record { slots = c.re_place.new.directory.slots; heap = c.re_place.new.segments; spare = min c.re_place.new.directory.spare c.re_place.new.segments.spare } in
    let P : ℕ → Type 0 = λ m. PutsSlot r.slots next.slots m (Some (record s { address = c.args.to })) in
    let puts : P c.args.name = subst P f.named c.in-Ok.ensures.slots in
    let mv : c.in-Live.moves ≡ moves_in h.state = sym (ap moves_in c.in-Live.is) in
    let M : ℕ → Type 0 = λ m. Moves r.heap.blocks next.heap.blocks s.address (record { address = c.args.to; moves = m + 1 }) h in
    let moves : M (moves_in h.state) = subst M mv c.in-Ok.ensures.moved in
    let st = Stands-relocated r next c.args.name c.args.to s h c.self.invariant.1 f puts apart before c.in-Ok.ensures.apart moves in
    (c.self.invariant.0 ∙ sym (ap (λ (x : Heap). x.me) c.in-Ok.ensures.rest), IsReplica-stands r.slots next.slots r.heap.blocks next.heap.blocks c.args.name _ _ st, c.in-Ok.ensures.apart)

pub returns : goal.returns
returns c =
    let r : Holding = the_view c.self.inside in
    let s : Slot = c.in-Some.found.slot in
    let h : Header = c.in-Some.found.header in
    let F : Holding → Type 0 = λ x. IsFound x.slots x.heap.blocks c.args.name s h in
    let f : F r = subst F (sym c.self.view_is) c.in-Some.ensures.found in
    let Q : Holding → Type 0 = λ x. IsSomeAnd (entry_of x c.args.name) (λ e. CanMove x.heap c.args.to e) in
    let can : Q r = subst Q (sym c.self.view_is) c.requires in
    let move : CanMove r.heap c.args.to (entry_in r.heap.blocks s h) = rw (entry_at-found r.slots r.heap.blocks c.args.name s h f) at can in
    let apart : s.address ≢ c.args.to = λ e. let t = CanSet-same r.heap c.args.to (h.name + 1) h.size h (move.free (h.name + 1)) (ap (header_at r.heap.blocks) (sym e) ∙ f.there) in absurd (omega arith) in
    let before : (t : Header) → header_at r.heap.blocks c.args.to ≡ Some t → t.name ≡ c.args.name = λ t e. (CanSet-same r.heap c.args.to c.args.name h.size t (move.free c.args.name) e).0 in
    let next : Holding = record { slots = c.re_place.new.directory.slots; heap = c.re_place.new.segments; spare = min c.re_place.new.directory.spare c.re_place.new.segments.spare } in
    let P : ℕ → Type 0 = λ m. PutsSlot r.slots next.slots m (Some (record s { address = c.args.to })) in
    let puts : P c.args.name = subst P f.named c.in-Ok.ensures.slots in
    let mv : c.in-Live.moves ≡ moves_in h.state = sym (ap moves_in c.in-Live.is) in
    let M : ℕ → Type 0 = λ m. Moves r.heap.blocks next.heap.blocks s.address (record { address = c.args.to; moves = m + 1 }) h in
    let moves : M (moves_in h.state) = subst M mv c.in-Ok.ensures.moved in
    rw (← c.self.view_is) (MovesObject-done r next c.args.name c.args.to s h c.self.invariant.1 f puts apart before c.in-Ok.ensures.apart moves c.in-Ok.ensures.rest (spare_same _ _ _ _ c.re_place.ensures.spare (ap (λ (x : Heap). x.spare) c.in-Ok.ensures.rest)))
