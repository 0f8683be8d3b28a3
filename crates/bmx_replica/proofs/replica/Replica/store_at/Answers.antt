use Rattle.std.proofs.Common.{◌≡◌, ℕ, Some, IsSome, min, sym, ap, subst, ◌∙◌}
use Rattle.bmx_segment.specs.Headers.{kind_number}
use Rattle.bmx_segment.specs.Stores.{header_at, Writes}
use Rattle.bmx_segment.specs.Heaps.{Heap}
use Rattle.bmx_replica.specs.Replicas.{Holding, IsField, StandsAt, WritesField, field_of, value_in}
use Rattle.bmx_replica.specs.declared.objects.Object.{Object}
use Rattle.bmx_replica.specs.declared.words.Word.{Word}
use Rattle.bmx_replica.specs.contracts.replica.Replica.{the_view}
use Rattle.bmx_replica.proofs.Laid.{IsLive-from}
use Rattle.bmx_replica.proofs.Fielded.{field_of-there}
use Rattle.bmx_replica.proofs.Done.{IsReplica-written, WritesField-done}
use Rattle.bmx_replica.proofs.Finding.{found_of}
use Rattle.bmx_replica.proofs.Spaced.{AreApart-written}
use Rattle.bmx_replica.proofs.replica.Replica.store_at.Goals as goal

pub set_word-requires : goal.set_word-requires
set_word-requires c =
    let r : Holding = the_view c.self.inside in
    let o : Object = c.args.object.now in
    let at : StandsAt r o = subst (λ (x : Holding). StandsAt x o) (sym c.self.view_is) c.requires.stands in
    let has : IsSome (field_of r o.header.name c.args.i) = subst (λ (x : Holding). IsSome (field_of x o.header.name c.args.i)) (sym c.self.view_is) c.requires.field in
    let f = found_of r o c.self.invariant.1 at in
    let within = field_of-there r o.header.name f.0 o.header f.2 c.args.i has in
    let there : header_at c.self.inside.segments.blocks o.address ≡ Some o.header = at.there in
    rw there (IsLive-from o.header.state at.live, within.1)

pub invariant_of-self : goal.invariant_of-self
invariant_of-self c =
    let r : Holding = the_view c.self.inside in
    let o : Object = c.args.object.now in
    let word : Word = c.word-kind.result in
    let at : StandsAt r o = subst (λ (x : Holding). StandsAt x o) (sym c.self.view_is) c.requires.stands in
    let has : IsSome (field_of r o.header.name c.args.i) = subst (λ (x : Holding). IsSome (field_of x o.header.name c.args.i)) (sym c.self.view_is) c.requires.field in
    let f = found_of r o c.self.invariant.1 at in
    let field : IsField r.heap.blocks (kind_number word.kind) word.word = subst (λ (x : Holding). IsField x.heap.blocks (kind_number word.kind) word.word) (sym c.self.view_is) c.word-kind.ensures.field in
    let W : ℕ → Type 0 = λ a. Writes r.heap.blocks c.set_word.new.self.blocks a c.args.i (kind_number word.kind) word.word in
    let writes : W f.0.address = subst W (sym f.1) c.set_word.ensures.written in (
      c.self.invariant.0 ∙ sym (ap (λ (x : Heap). x.me) c.set_word.ensures.rest),
      IsReplica-written r c.set_word.new.self.blocks o.header.name c.args.i c.args.value word f.0 c.self.invariant.1 f.2.slot has field c.set_word.ensures.apart writes,
      AreApart-written r.heap.blocks c.set_word.new.self.blocks o.address c.args.i (kind_number word.kind) word.word c.set_word.ensures.apart c.set_word.ensures.written,
    )

pub returns : goal.returns
returns c =
    let r : Holding = the_view c.self.inside in
    let o : Object = c.args.object.now in
    let word : Word = c.word-kind.result in
    let at : StandsAt r o = subst (λ (x : Holding). StandsAt x o) (sym c.self.view_is) c.requires.stands in
    let has : IsSome (field_of r o.header.name c.args.i) = subst (λ (x : Holding). IsSome (field_of x o.header.name c.args.i)) (sym c.self.view_is) c.requires.field in
    let f = found_of r o c.self.invariant.1 at in
    let field : IsField r.heap.blocks (kind_number word.kind) word.word = subst (λ (x : Holding). IsField x.heap.blocks (kind_number word.kind) word.word) (sym c.self.view_is) c.word-kind.ensures.field in
    let W : ℕ → Type 0 = λ a. Writes r.heap.blocks c.set_word.new.self.blocks a c.args.i (kind_number word.kind) word.word in
    let writes : W f.0.address = subst W (sym f.1) c.set_word.ensures.written in
    let next : Holding = record { slots = r.slots; heap = c.set_word.new.self; spare = min c.self.inside.directory.spare c.set_word.new.self.spare } in
    let e : next ≡ record r { heap = record r.heap { blocks = c.set_word.new.self.blocks } } =
    λ k. record { slots = r.slots; heap = c.set_word.ensures.rest k; spare = min c.self.inside.directory.spare (c.set_word.ensures.rest k).spare } in
    let V : Holding → Type 0 = λ x. value_in x.heap.blocks (kind_number word.kind) word.word ≡ c.args.value in
    let holds : V r = subst V (sym c.self.view_is) c.word-kind.ensures.holds in
    let done = WritesField-done r c.set_word.new.self.blocks o.header.name c.args.i c.args.value word f.0 c.self.invariant.1 f.2.slot has field c.set_word.ensures.apart writes (rw c.self.view_is c.word-kind.ensures.word) holds in
    let P : Holding → Type 0 = λ x. WritesField r x o.header.name c.args.i c.args.value in
    rw (← c.self.view_is) (subst P (sym e) done)
