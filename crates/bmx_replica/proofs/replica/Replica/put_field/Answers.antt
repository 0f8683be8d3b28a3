use Rattle.std.proofs.Common.{◌≡◌, Some, IsSome, min, sym, ap, subst, ◌∙◌}
use Rattle.bmx_segment.specs.Headers.{kind_number}
use Rattle.bmx_segment.specs.Stores.{header_at}
use Rattle.bmx_segment.specs.Heaps.{Heap}
use Rattle.bmx_replica.specs.Slots.{slot_of}
use Rattle.bmx_replica.specs.Replicas.{Holding, IsField, WritesField, field_of, value_in}
use Rattle.bmx_replica.specs.Inside.Replicas.{OthersStay}
use Rattle.bmx_replica.specs.declared.words.Word.{Word}
use Rattle.bmx_replica.specs.contracts.replica.Replica.{the_view}
use Rattle.bmx_replica.proofs.Laid.{IsLive-from}
use Rattle.bmx_replica.proofs.Standing.{found_at}
use Rattle.bmx_replica.proofs.Fielded.{field_of-there}
use Rattle.bmx_replica.proofs.Done.{IsReplica-written, WritesField-done, OthersStay-done}
use Rattle.bmx_replica.proofs.Spaced.{AreApart-written}
use Rattle.bmx_replica.proofs.replica.Replica.put_field.Goals as goal

pub set_word-requires : goal.set_word-requires
set_word-requires c =
    let r : Holding = the_view c.self.inside in
    let slot : slot_of r.slots c.args.name ≡ Some c.in-Some.slot = sym c.in-Some.ensures in
    let H : Holding → Type 0 = λ x. IsSome (field_of x c.args.name c.args.i) in
    let has : H r = subst H (sym c.self.view_is) c.requires.field in
    let f = found_at r.slots r.heap.blocks c.args.name c.in-Some.slot c.self.invariant.1 slot in
    let p = field_of-there r c.args.name c.in-Some.slot f.0 f.1 c.args.i has in
    let there : header_at c.self.inside.segments.blocks c.in-Some.slot.address ≡ Some f.0 = f.1.there in
    rw there (IsLive-from f.0.state f.1.live, p.1)

pub invariant_of-self : goal.invariant_of-self
invariant_of-self c =
    let r : Holding = the_view c.self.inside in
    let slot : slot_of r.slots c.args.name ≡ Some c.in-Some.slot = sym c.in-Some.ensures in
    let H : Holding → Type 0 = λ x. IsSome (field_of x c.args.name c.args.i) in
    let has : H r = subst H (sym c.self.view_is) c.requires.field in
    let word : Word = c.word-kind.result in
    let W : Holding → Type 0 = λ x. IsField x.heap.blocks (kind_number word.kind) word.word in
    let field : W r = subst W (sym c.self.view_is) c.word-kind.ensures.field in (
      c.self.invariant.0 ∙ sym (ap (λ (x : Heap). x.me) c.set_word.ensures.rest),
      IsReplica-written r c.set_word.new.self.blocks c.args.name c.args.i c.args.v word c.in-Some.slot c.self.invariant.1 slot has field c.set_word.ensures.apart c.set_word.ensures.written,
      AreApart-written r.heap.blocks c.set_word.new.self.blocks c.in-Some.slot.address c.args.i (kind_number word.kind) word.word c.set_word.ensures.apart c.set_word.ensures.written,
    )

pub returns-clause-writes : goal.returns-clause-writes
returns-clause-writes c =
    let r : Holding = the_view c.self.inside in
    let slot : slot_of r.slots c.args.name ≡ Some c.in-Some.slot = sym c.in-Some.ensures in
    let H : Holding → Type 0 = λ x. IsSome (field_of x c.args.name c.args.i) in
    let has : H r = subst H (sym c.self.view_is) c.requires.field in
    let word : Word = c.word-kind.result in
    let W : Holding → Type 0 = λ x. IsField x.heap.blocks (kind_number word.kind) word.word in
    let field : W r = subst W (sym c.self.view_is) c.word-kind.ensures.field in
    let next : Holding = record { slots = r.slots; heap = c.set_word.new.self; spare = min c.self.inside.directory.spare c.set_word.new.self.spare } in
    let e : next ≡ record r { heap = record r.heap { blocks = c.set_word.new.self.blocks } } =
    λ k. record { slots = r.slots; heap = c.set_word.ensures.rest k; spare = min c.self.inside.directory.spare (c.set_word.ensures.rest k).spare } in
    let is = ap (λ (x : Holding). x) c.self.view_is in
    let V : Holding → Type 0 = λ x. value_in x.heap.blocks (kind_number word.kind) word.word ≡ c.args.v in
    let holds : V r = subst V (sym c.self.view_is) c.word-kind.ensures.holds in
    let done = WritesField-done r c.set_word.new.self.blocks c.args.name c.args.i c.args.v word c.in-Some.slot c.self.invariant.1 slot has field c.set_word.ensures.apart c.set_word.ensures.written (rw c.self.view_is c.word-kind.ensures.word) holds in
    let P : Holding → Type 0 = λ x. WritesField r x c.args.name c.args.i c.args.v in
    rw (← c.self.view_is) (subst P (sym e) done)

pub returns-clause-others : goal.returns-clause-others
returns-clause-others c =
    let r : Holding = the_view c.self.inside in
    let slot : slot_of r.slots c.args.name ≡ Some c.in-Some.slot = sym c.in-Some.ensures in
    let H : Holding → Type 0 = λ x. IsSome (field_of x c.args.name c.args.i) in
    let has : H r = subst H (sym c.self.view_is) c.requires.field in
    let word : Word = c.word-kind.result in
    let W : Holding → Type 0 = λ x. IsField x.heap.blocks (kind_number word.kind) word.word in
    let field : W r = subst W (sym c.self.view_is) c.word-kind.ensures.field in
    let next : Holding = record { slots = r.slots; heap = c.set_word.new.self; spare = min c.self.inside.directory.spare c.set_word.new.self.spare } in
    let e : next ≡ record r { heap = record r.heap { blocks = c.set_word.new.self.blocks } } =
    λ k. record { slots = r.slots; heap = c.set_word.ensures.rest k; spare = min c.self.inside.directory.spare (c.set_word.ensures.rest k).spare } in
    let done = OthersStay-done r c.set_word.new.self.blocks c.args.name c.args.i c.args.v word c.in-Some.slot c.self.invariant.1 slot has field c.set_word.ensures.apart c.set_word.ensures.written in
    let P : Holding → Type 0 = λ x. OthersStay r x c.args.name c.args.i in
    rw (← c.self.view_is) (subst P (sym e) done)
