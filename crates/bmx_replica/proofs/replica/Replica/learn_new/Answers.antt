use Rattle.std.proofs.Common.{◌≡◌, ℕ, min, false, List, Result, Ok, Err, Some, None, Option, sym, ap, ◌∙◌, refl, subst, arith}
use Rattle.std.proofs.lemmas.Bool.{false≢true}
use Rattle.bmx_types.specs.declared.addresses.Info.{Info}
use Rattle.bmx_segment.specs.Stores.{AreApart}
use Rattle.bmx_segment.specs.Heaps.{Heap, CanSet}
use Rattle.bmx_replica.specs.declared.directory.Slot.{Slot}
use Rattle.bmx_replica.specs.Slots.{slot_of}
use Rattle.bmx_replica.specs.Layouts.{CanLie}
use Rattle.bmx_replica.specs.Replicas.{Holding, Entry, IsReplica, Accepts, Same, entry_of}
use Rattle.std.specs.Prelude.{OnErr}
use Rattle.bmx_replica.specs.Inside.Slots.{Listing, PutsSlot}
use Rattle.bmx_replica.specs.Inside.Layouts.{Readies}
use Rattle.bmx_replica.specs.contracts.replica.Replica.{the_view}
use Rattle.bmx_replica.proofs.Standing.{IsReplica-stands, entry_none}
use Rattle.bmx_replica.proofs.Lying.{spare_after}
use Rattle.bmx_replica.proofs.Done.{spare_both, spare_more, Stands-learned, Learns-new}
use Rattle.bmx_replica.proofs.replica.Replica.learn_new.Goals as goal

pub invariant_of-self-in_err-add_object : goal.invariant_of-self-in_err-add_object
invariant_of-self-in_err-add_object c =
    let r : Holding = the_view c.self.inside in
    let i : Info = c.args.info.now in
    let at : ℕ = i.place.address in
    let mid : Heap = c.map_for.new.segments in
    let rd : Readies r.heap mid at i.name i.size = c.in_ok-map_for.ensures.ok in
    let e = c.in_err-add_object.ensures in
    let same : c.add_object.new.segments ≡ r.heap = e.err ∙ rd.stays (λ can. false≢true (e.ok.1 can)) in
    let slots : c.add_object.new.directory.slots ≡ r.slots = ap (λ (d : Listing). d.slots) e.err_slots ∙ c.reserve.ensures.slots in
    let P : List (ℕ × Slot) → Type 0 = λ l. IsReplica l r.heap.blocks in
    let Q : Heap → Type 0 = λ h. (c.self.inside.me ≡ h.me) × IsReplica c.add_object.new.directory.slots h.blocks × AreApart h.blocks in
    subst Q (sym same) (c.self.invariant.0, subst P (sym slots) c.self.invariant.1, c.self.invariant.2)

pub invariant_of-self-2 : goal.invariant_of-self-2
invariant_of-self-2 c =
    let r : Holding = the_view c.self.inside in
    let i : Info = c.args.info.now in
    let at : ℕ = i.place.address in
    let mid : Heap = c.map_for.new.segments in
    let rd : Readies r.heap mid at i.name i.size = c.in_ok-map_for.ensures.ok in
    let next : Holding = record { slots = c.add_object.new.directory.slots; heap = c.add_object.new.segments; spare = min c.add_object.new.directory.spare c.add_object.new.segments.spare } in
    let N : Holding → Type 0 = λ x. slot_of x.slots i.name ≡ None in
    let absent : N r = subst N (sym c.self.view_is) c.requires.none in
    let P : List (ℕ × Slot) → Type 0 = λ l. PutsSlot l next.slots i.name (Some (record { address = at; has_copy = false })) in
    let puts : P r.slots = subst P c.reserve.ensures.slots c.in_ok-add_object.ensures.slots in
    let can : CanSet mid at i.name i.size = c.in_ok-add_object.ensures.ok.0 refl in
    let st = Stands-learned r next mid i c.self.invariant.1 rd c.in_ok-add_object.ensures.apart c.add_object.ensures.rest absent can puts c.in_ok-add_object.ensures.laid in
    let me : c.add_object.new.segments.me ≡ r.heap.me = ap (λ (x : Heap). x.me) c.add_object.ensures.rest ∙ ap (λ (x : Heap). x.me) rd.maps.rest in
    (c.self.invariant.0 ∙ sym me, IsReplica-stands r.slots next.slots r.heap.blocks next.heap.blocks i.name _ _ st, c.in_ok-add_object.ensures.apart)

pub returns-clause-ok : goal.returns-clause-ok
returns-clause-ok c =
    let r : Holding = the_view c.self.inside in
    let i : Info = c.args.info.now in
    let at : ℕ = i.place.address in
    let mid : Heap = c.map_for.new.segments in
    let rd : Readies r.heap mid at i.name i.size = c.in_ok-map_for.ensures.ok in
    let next : Holding = record { slots = c.add_object.new.directory.slots; heap = c.add_object.new.segments; spare = min c.add_object.new.directory.spare c.add_object.new.segments.spare } in
    let N : Holding → Type 0 = λ x. slot_of x.slots i.name ≡ None in
    let absent : N r = subst N (sym c.self.view_is) c.requires.none in
    let P : List (ℕ × Slot) → Type 0 = λ l. PutsSlot l next.slots i.name (Some (record { address = at; has_copy = false })) in
    let puts : P r.slots = subst P c.reserve.ensures.slots c.in_ok-add_object.ensures.slots in
    let can : CanSet mid at i.name i.size = c.in_ok-add_object.ensures.ok.0 refl in
    let less = spare_after r.heap mid at rd.maps in
    let room : c.add_object.new.segments.spare ≡ mid.spare = ap (λ (x : Heap). x.spare) c.add_object.ensures.rest in
    rw (← c.self.view_is)
    (Learns-new r next mid i c.self.invariant.1 rd c.in_ok-add_object.ensures.apart c.add_object.ensures.rest absent can puts c.in_ok-add_object.ensures.laid
    (spare_both _ _ _ _ _ c.reserve.ensures.spare c.add_object.ensures.spare (omega arith)))

-- what holds whatever the result
on_err : {T E : Type 0} (r : Result T E) (P : Type 0) → P → OnErr r P
on_err (Ok x) P h = tt
on_err (Err x) P h = h

pub returns-in_err-add_object-clause-clash : goal.returns-in_err-add_object-clause-clash
returns-in_err-add_object-clause-clash c = λ err accepted.
    let r : Holding = the_view c.self.inside in
    let i : Info = c.args.info.now in
    let at : ℕ = i.place.address in
    let mid : Heap = c.map_for.new.segments in
    let rd : Readies r.heap mid at i.name i.size = c.in_ok-map_for.ensures.ok in
    let e = c.in_err-add_object.ensures in
    let N : Holding → Type 0 = λ x. slot_of x.slots i.name ≡ None in
    let absent : N r = subst N (sym c.self.view_is) c.requires.none in
    let A : Holding → Type 0 = λ x. Accepts x.heap i (entry_of x i.name) in
    let here : A r = subst A (sym c.self.view_is) accepted in
    let O : Option Entry → Type 0 = λ o. Accepts r.heap i o in
    let lie : CanLie r.heap at i.name i.size = subst O (entry_none r.slots r.heap.blocks i.name absent) here in
    false≢true (e.ok.1 (rd.can lie))

pub returns-in_err-add_object-clause-err : goal.returns-in_err-add_object-clause-err
returns-in_err-add_object-clause-err c =
    let r : Holding = the_view c.self.inside in
    let i : Info = c.args.info.now in
    let at : ℕ = i.place.address in
    let mid : Heap = c.map_for.new.segments in
    let rd : Readies r.heap mid at i.name i.size = c.in_ok-map_for.ensures.ok in
    let e = c.in_err-add_object.ensures in
    let same : c.add_object.new.segments ≡ r.heap = e.err ∙ rd.stays (λ can. false≢true (e.ok.1 can)) in
    let slots : c.add_object.new.directory.slots ≡ r.slots = ap (λ (d : Listing). d.slots) e.err_slots ∙ c.reserve.ensures.slots in
    let stock : c.add_object.new.directory.spare ≡ c.reserve.new.self.spare = ap (λ (d : Listing). d.spare) e.err_slots in
    let more = c.reserve.ensures.spare in
    let next : Holding = record { slots = c.add_object.new.directory.slots; heap = c.add_object.new.segments; spare = min c.add_object.new.directory.spare c.add_object.new.segments.spare } in
    let done : Same r next = record { slots = slots; heap = same; spare = spare_more c.self.inside.directory.spare c.add_object.new.directory.spare r.heap.spare c.add_object.new.segments.spare (omega arith) (ap (λ (h : Heap). h.spare) same) } in
    on_err c.from_residual-in_err-add_object.result _ (rw (← c.self.view_is) done)
