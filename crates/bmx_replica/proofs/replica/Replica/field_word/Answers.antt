use Rattle.std.proofs.Common.{◌≡◌, ◌<◌, ◌≤◌, None, Some, IsSome, sym, ap, ◌∙◌, arith}
use Rattle.bmx_segment.specs.Headers.{kind_of, kind_number}
use Rattle.bmx_segment.specs.Stores.{header_at}
use Rattle.bmx_replica.specs.Layouts.{kinds_in}
use Rattle.bmx_replica.specs.Replicas.{Holding, StandsAt, entry_of, copy_of, field_of, value_in}
use Rattle.bmx_replica.specs.declared.objects.Object.{Object}
use Rattle.bmx_replica.specs.contracts.replica.Replica.{the_view}
use Rattle.bmx_replica.proofs.Laid.{IsLive-from}
use Rattle.bmx_replica.proofs.Finding.{entry_there, field_there, field_past}
use Rattle.bmx_replica.proofs.replica.Replica.field_word.Goals as goal
use Rattle.std.proofs.Common.{subst}

pub kind_in-kind-requires-clause-known : goal.kind_in-kind-requires-clause-known
kind_in-kind-requires-clause-known c =
    let r : Holding = the_view c.self.inside in
    let o : Object = c.args.object.now in
    let lt : c.args.i < o.header.size = omega arith in
    let at : StandsAt r o = subst (λ (x : Holding). StandsAt x o) (sym c.self.view_is) c.requires in
    let k : c.in-Live.kinds ≡ kinds_in o.header.state = sym (ap kinds_in c.in-Live.is) in
    rw k ((c.self.invariant.1.fields o.address c.args.i o.header at.there at.live lt).known)

pub kind_in-kind-requires-clause-few : goal.kind_in-kind-requires-clause-few
kind_in-kind-requires-clause-few c =
    let o : Object = c.args.object.now in
    let lt : c.args.i < o.header.size = omega arith in
    let few = c.requires.few in
    omega arith

pub word-word-requires : goal.word-word-requires
word-word-requires c =
    let r : Holding = the_view c.self.inside in
    let o : Object = c.args.object.now in
    let lt : c.args.i < o.header.size = omega arith in
    let at : StandsAt r o = subst (λ (x : Holding). StandsAt x o) (sym c.self.view_is) c.requires in
    let there : header_at c.self.inside.segments.blocks o.address ≡ Some o.header = at.there in
    rw there (IsLive-from o.header.state at.live, lt)

pub returns-clause-field : goal.returns-clause-field
returns-clause-field c =
    let r : Holding = the_view c.self.inside in
    let o : Object = c.args.object.now in
    let lt : c.args.i < o.header.size = omega arith in
    let at : StandsAt r o = subst (λ (x : Holding). StandsAt x o) (sym c.self.view_is) c.requires in
    let k : kind_number c.kind_in-kind.result ≡ kind_of (kinds_in o.header.state) c.args.i = c.kind_in-kind.ensures ∙ ap (λ n. kind_of n c.args.i) (sym (ap kinds_in c.in-Live.is)) in
    rw (← c.self.view_is) (rw (k, c.word-word.ensures) (c.self.invariant.1.fields o.address c.args.i o.header at.there at.live lt))

pub returns-clause-value : goal.returns-clause-value
returns-clause-value c = λ copy.
    let r : Holding = the_view c.self.inside in
    let o : Object = c.args.object.now in
    let lt : c.args.i < o.header.size = omega arith in
    let at : StandsAt r o = subst (λ (x : Holding). StandsAt x o) (sym c.self.view_is) c.requires in
    let C : Holding → Type 0 = λ x. IsSome (copy_of x o.header.name) in
    let k : kind_number c.kind_in-kind.result ≡ kind_of (kinds_in o.header.state) c.args.i = c.kind_in-kind.ensures ∙ ap (λ n. kind_of n c.args.i) (sym (ap kinds_in c.in-Live.is)) in
    let here : field_of r o.header.name c.args.i ≡ Some (value_in r.heap.blocks (kind_number c.kind_in-kind.result) c.word-word.result) =
    field_there r o c.self.invariant.1 at c.args.i (subst C (sym c.self.view_is) copy) lt
    ∙ sym (ap Some (ap (λ n. value_in r.heap.blocks n c.word-word.result) k ∙ ap (value_in r.heap.blocks (kind_of (kinds_in o.header.state) c.args.i)) c.word-word.ensures)) in
    let F : Holding → Type 0 = λ x. field_of x o.header.name c.args.i ≡ Some (value_in x.heap.blocks (kind_number c.kind_in-kind.result) c.word-word.result) in
    subst F c.self.view_is here

pub returns-then-i-object-clause-value : goal.returns-then-i-object-clause-value
returns-then-i-object-clause-value c = λ copy.
    let r : Holding = the_view c.self.inside in
    let o : Object = c.args.object.now in
    let at : StandsAt r o = subst (λ (x : Holding). StandsAt x o) (sym c.self.view_is) c.requires in
    let past : o.header.size ≤ c.args.i = omega arith in
    let F : Holding → Type 0 = λ x. field_of x o.header.name c.args.i ≡ None in
    subst F c.self.view_is (field_past r o c.self.invariant.1 at c.args.i past)

pub returns-clause-entry : goal.returns-clause-entry
returns-clause-entry c =
    let r : Holding = the_view c.self.inside in
    let o : Object = c.args.object.now in
    let at : StandsAt r o = subst (λ (x : Holding). StandsAt x o) (sym c.self.view_is) c.requires in
    let E : Holding → Type 0 = λ x. IsSome (entry_of x o.header.name) in
    subst E c.self.view_is (entry_there r o c.self.invariant.1 at)

pub returns-then-i-object-clause-entry : goal.returns-then-i-object-clause-entry
returns-then-i-object-clause-entry c =
    let r : Holding = the_view c.self.inside in
    let o : Object = c.args.object.now in
    let at : StandsAt r o = subst (λ (x : Holding). StandsAt x o) (sym c.self.view_is) c.requires in
    let E : Holding → Type 0 = λ x. IsSome (entry_of x o.header.name) in
    subst E c.self.view_is (entry_there r o c.self.invariant.1 at)
