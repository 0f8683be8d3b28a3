use Rattle.std.proofs.Common.{◌≡◌, ℕ, Some, IsSome, min, sym, ap, subst, ◌∙◌}
use Rattle.bmx_segment.specs.Headers.{kind_number}
use Rattle.bmx_segment.specs.Stores.{header_at, Writes}
use Rattle.bmx_segment.specs.Heaps.{Heap}
use Rattle.bmx_replica.specs.Replicas.{Holding, IsHolding, StandsAt, WritesField, copy_of, field_of}
use Rattle.bmx_replica.specs.declared.objects.Object.{Object}
use Rattle.bmx_replica.specs.declared.objects.Held.{Held}
use Rattle.bmx_replica.specs.contracts.replica.Replica.{the_view}
use Rattle.bmx_replica.proofs.Laid.{IsLive-from}
use Rattle.bmx_replica.proofs.Done.{IsReplica-written, WritesField-done}
use Rattle.bmx_replica.proofs.Finding.{found_of, field_there}
use Rattle.std.proofs.Common.{is_some}
use Rattle.bmx_replica.proofs.Spaced.{AreApart-written}
use Rattle.bmx_replica.proofs.replica.Replica.write_at.Goals as goal

pub set_word-requires : goal.set_word-requires
set_word-requires c =
    let r : Holding = the_view c.self.inside in
    let o : Object = c.args.object.now in
    let at : StandsAt r o = subst (λ (x : Holding). StandsAt x o) (sym c.self.view_is) c.requires.stands in
    let there : header_at c.self.inside.segments.blocks o.address ≡ Some o.header = at.there in
    rw there (IsLive-from o.header.state at.live, c.requires.field)

pub invariant_of-self : goal.invariant_of-self
invariant_of-self c =
    let r : Holding = the_view c.self.inside in
    let o : Object = c.args.object.now in
    let h : Held = c.args.held in
    let at : StandsAt r o = subst (λ (x : Holding). StandsAt x o) (sym c.self.view_is) c.requires.stands in
    let C : Holding → Type 0 = λ x. IsSome (copy_of x o.header.name) in
    let copy : C r = subst C (sym c.self.view_is) c.requires.copy in
    let one : IsHolding r h = subst (λ (x : Holding). IsHolding x h) (sym c.self.view_is) c.requires.held in
    let f = found_of r o c.self.invariant.1 at in
    let has : IsSome (field_of r o.header.name c.args.i) = ap is_some (field_there r o c.self.invariant.1 at c.args.i copy c.requires.field) in
    let W : ℕ → Type 0 = λ a. Writes r.heap.blocks c.set_word.new.self.blocks a c.args.i (kind_number h.word.kind) h.word.word in
    let writes : W f.0.address = subst W (sym f.1) c.set_word.ensures.written in (
      c.self.invariant.0 ∙ sym (ap (λ (x : Heap). x.me) c.set_word.ensures.rest),
      IsReplica-written r c.set_word.new.self.blocks o.header.name c.args.i h.value h.word f.0 c.self.invariant.1 f.2.slot has one.field c.set_word.ensures.apart writes,
      AreApart-written r.heap.blocks c.set_word.new.self.blocks o.address c.args.i (kind_number h.word.kind) h.word.word c.set_word.ensures.apart c.set_word.ensures.written,
    )

pub returns : goal.returns
returns c =
    let r : Holding = the_view c.self.inside in
    let o : Object = c.args.object.now in
    let h : Held = c.args.held in
    let at : StandsAt r o = subst (λ (x : Holding). StandsAt x o) (sym c.self.view_is) c.requires.stands in
    let C : Holding → Type 0 = λ x. IsSome (copy_of x o.header.name) in
    let copy : C r = subst C (sym c.self.view_is) c.requires.copy in
    let one : IsHolding r h = subst (λ (x : Holding). IsHolding x h) (sym c.self.view_is) c.requires.held in
    let f = found_of r o c.self.invariant.1 at in
    let has : IsSome (field_of r o.header.name c.args.i) = ap is_some (field_there r o c.self.invariant.1 at c.args.i copy c.requires.field) in
    let W : ℕ → Type 0 = λ a. Writes r.heap.blocks c.set_word.new.self.blocks a c.args.i (kind_number h.word.kind) h.word.word in
    let writes : W f.0.address = subst W (sym f.1) c.set_word.ensures.written in
    let next : Holding = record { slots = r.slots; heap = c.set_word.new.self; spare = min c.self.inside.directory.spare c.set_word.new.self.spare } in
    let e : next ≡ record r { heap = record r.heap { blocks = c.set_word.new.self.blocks } } =
    λ k. record { slots = r.slots; heap = c.set_word.ensures.rest k; spare = min c.self.inside.directory.spare (c.set_word.ensures.rest k).spare } in
    let done = WritesField-done r c.set_word.new.self.blocks o.header.name c.args.i h.value h.word f.0 c.self.invariant.1 f.2.slot has one.field c.set_word.ensures.apart writes one.word one.holds in
    let P : Holding → Type 0 = λ x. WritesField r x o.header.name c.args.i h.value in
    rw (← c.self.view_is) (subst P (sym e) done)
