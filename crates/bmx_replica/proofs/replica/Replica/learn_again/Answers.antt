use Rattle.std.proofs.Common.{◌≡◌, ◌≢◌, ℕ, ◌<◌, min, List, Some, sym, ap, ◌∙◌, refl, subst, arith}
use Rattle.std.proofs.lemmas.Bool.{false≢true}
use Rattle.bmx_types.specs.declared.addresses.Info.{Info}
use Rattle.bmx_types.specs.declared.addresses.Place.{Place}
use Rattle.bmx_segment.specs.Stores.{AreApart}
use Rattle.bmx_segment.specs.Heaps.{Heap, CanSet}
use Rattle.bmx_segment.specs.declared.headers.Header.{Header}
use Rattle.bmx_replica.specs.declared.directory.Slot.{Slot}
use Rattle.bmx_replica.specs.Slots.{slot_of}
use Rattle.bmx_replica.specs.Layouts.{moves_in}
use Rattle.bmx_replica.specs.Replicas.{Holding, IsReplica}
use Rattle.bmx_replica.specs.Inside.Slots.{Listing, PutsSlot}
use Rattle.bmx_replica.specs.Inside.Layouts.{Readies}
use Rattle.bmx_replica.specs.Inside.Replicas.{IsFound}
use Rattle.bmx_replica.specs.contracts.replica.Replica.{the_view}
use Rattle.bmx_replica.proofs.Standing.{IsReplica-stands}
use Rattle.bmx_replica.proofs.Slotted.{same_address, equal_from}
use Rattle.bmx_replica.proofs.Lying.{spare_after}
use Rattle.bmx_replica.proofs.Done.{spare_both, Stands-again, Learns-again}
use Rattle.bmx_replica.proofs.replica.Replica.learn_again.Goals as goal

pub re_place-requires-clause-found : goal.re_place-requires-clause-found
re_place-requires-clause-found c =
    let r : Holding = the_view c.self.inside in
    let i : Info = c.args.info.now in
    let to : Place = i.place in
    let s : Slot = c.args.found.now.slot in
    let h : Header = c.args.found.now.header in
    let mid : Heap = c.map_for.new.segments in
    let rd : Readies r.heap mid to.address i.name i.size = c.in_ok-map_for.ensures.ok in
    let F : Holding → Type 0 = λ x. IsFound x.slots x.heap.blocks i.name s h in
    let f : F r = subst F (sym c.self.view_is) c.requires.found in
    let S : ℕ → Type 0 = λ m. slot_of r.slots m ≡ Some s in
    record {
      slot = subst S (sym f.named) f.slot;
      there = rd.maps.mapped.headers s.address ∙ f.there;
      live = f.live;
      named = refl;
    }

pub invariant_of-self-in_err-re_place : goal.invariant_of-self-in_err-re_place
invariant_of-self-in_err-re_place c =
    let r : Holding = the_view c.self.inside in
    let i : Info = c.args.info.now in
    let to : Place = i.place in
    let s : Slot = c.args.found.now.slot in
    let h : Header = c.args.found.now.header in
    let mid : Heap = c.map_for.new.segments in
    let rd : Readies r.heap mid to.address i.name i.size = c.in_ok-map_for.ensures.ok in
    let F : Holding → Type 0 = λ x. IsFound x.slots x.heap.blocks i.name s h in
    let f : F r = subst F (sym c.self.view_is) c.requires.found in
    let e = c.in_err-re_place.ensures in
    let size : h.size ≡ i.size = c.if-header-info.false in
    let C : ℕ → ℕ → Type 0 = λ m z. CanSet mid to.address m z in
    let no : CanSet mid to.address i.name i.size → ⊥ = λ can. false≢true (e.ok.1 (subst (λ (m : ℕ). CanSet mid to.address m h.size) (sym f.named) (subst (λ (z : ℕ). CanSet mid to.address i.name z) (sym size) can))) in
    let same : c.re_place.new.segments ≡ r.heap = e.err ∙ rd.stays no in
    let slots : c.re_place.new.directory.slots ≡ r.slots = ap (λ (d : Listing). d.slots) e.err_slots in
    let P : List (ℕ × Slot) → Type 0 = λ l. IsReplica l r.heap.blocks in
    let Q : Heap → Type 0 = λ h. (c.self.inside.me ≡ h.me) × IsReplica c.re_place.new.directory.slots h.blocks × AreApart h.blocks in
    subst Q (sym same) (c.self.invariant.0, subst P (sym slots) c.self.invariant.1, c.self.invariant.2)

pub invariant_of-self-2 : goal.invariant_of-self-2
invariant_of-self-2 c =
    let r : Holding = the_view c.self.inside in
    let i : Info = c.args.info.now in
    let to : Place = i.place in
    let s : Slot = c.args.found.now.slot in
    let h : Header = c.args.found.now.header in
    let mid : Heap = c.map_for.new.segments in
    let rd : Readies r.heap mid to.address i.name i.size = c.in_ok-map_for.ensures.ok in
    let F : Holding → Type 0 = λ x. IsFound x.slots x.heap.blocks i.name s h in
    let f : F r = subst F (sym c.self.view_is) c.requires.found in
    let next : Holding = record { slots = c.re_place.new.directory.slots; heap = c.re_place.new.segments; spare = min c.re_place.new.directory.spare c.re_place.new.segments.spare } in
    let apart : s.address ≢ to.address = λ e. false≢true (sym c.if-eq.false ∙ c.eq.ensures ∙ same_address to.address s.address (sym e)) in
    let P : ℕ → Type 0 = λ m. PutsSlot r.slots next.slots m (Some (record s { address = to.address })) in
    let puts : P i.name = subst P f.named c.in_ok-re_place.ensures.slots in
    let can : CanSet mid to.address h.name h.size = c.in_ok-re_place.ensures.ok.0 refl in
    let mv : c.in-Live.moves ≡ moves_in h.state = sym (ap moves_in c.in-Live.is) in
    let bunch : h.bunch ≡ i.bunch = equal_from h.bunch i.bunch (sym c.ne.ensures ∙ c.if-ne.false) in
    let size : h.size ≡ i.size = c.if-header-info.false in
    let newer : moves_in h.state < i.place.moves = omega arith in
    let st = Stands-again r next mid i c.self.invariant.1 rd c.in_ok-re_place.ensures.apart c.re_place.ensures.rest s h f can puts apart bunch size newer c.in_ok-re_place.ensures.moved in
    let me : c.re_place.new.segments.me ≡ r.heap.me = ap (λ (x : Heap). x.me) c.re_place.ensures.rest ∙ ap (λ (x : Heap). x.me) rd.maps.rest in
    (c.self.invariant.0 ∙ sym me, IsReplica-stands r.slots next.slots r.heap.blocks next.heap.blocks i.name _ _ st, c.in_ok-re_place.ensures.apart)

pub returns-clause-ok : goal.returns-clause-ok
returns-clause-ok c =
    let r : Holding = the_view c.self.inside in
    let i : Info = c.args.info.now in
    let to : Place = i.place in
    let s : Slot = c.args.found.now.slot in
    let h : Header = c.args.found.now.header in
    let mid : Heap = c.map_for.new.segments in
    let rd : Readies r.heap mid to.address i.name i.size = c.in_ok-map_for.ensures.ok in
    let F : Holding → Type 0 = λ x. IsFound x.slots x.heap.blocks i.name s h in
    let f : F r = subst F (sym c.self.view_is) c.requires.found in
    let next : Holding = record { slots = c.re_place.new.directory.slots; heap = c.re_place.new.segments; spare = min c.re_place.new.directory.spare c.re_place.new.segments.spare } in
    let apart : s.address ≢ to.address = λ e. false≢true (sym c.if-eq.false ∙ c.eq.ensures ∙ same_address to.address s.address (sym e)) in
    let P : ℕ → Type 0 = λ m. PutsSlot r.slots next.slots m (Some (record s { address = to.address })) in
    let puts : P i.name = subst P f.named c.in_ok-re_place.ensures.slots in
    let can : CanSet mid to.address h.name h.size = c.in_ok-re_place.ensures.ok.0 refl in
    let mv : c.in-Live.moves ≡ moves_in h.state = sym (ap moves_in c.in-Live.is) in
    let bunch : h.bunch ≡ i.bunch = equal_from h.bunch i.bunch (sym c.ne.ensures ∙ c.if-ne.false) in
    let size : h.size ≡ i.size = c.if-header-info.false in
    let newer : moves_in h.state < i.place.moves = omega arith in
    let less = spare_after r.heap mid to.address rd.maps in
    let room : c.re_place.new.segments.spare ≡ mid.spare = ap (λ (x : Heap). x.spare) c.re_place.ensures.rest in
    let one = c.re_place.ensures.spare in
    rw (← c.self.view_is)
    (Learns-again r next mid i c.self.invariant.1 rd c.in_ok-re_place.ensures.apart c.re_place.ensures.rest s h f can puts apart bunch size newer c.in_ok-re_place.ensures.moved
    (spare_both c.self.inside.directory.spare c.self.inside.directory.spare c.re_place.new.directory.spare r.heap.spare c.re_place.new.segments.spare (omega arith) (omega arith) (omega arith)))
