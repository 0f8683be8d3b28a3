use Rattle.std.proofs.Common.{◌≡◌, ◌+◌, Some, sym, ap, ◌∙◌}
use Rattle.bmx_segment.specs.Headers.{kind_of, kind_number}
use Rattle.bmx_segment.specs.Stores.{header_at, word_at}
use Rattle.bmx_segment.specs.declared.headers.Header.{Header}
use Rattle.bmx_replica.specs.declared.directory.Slot.{Slot}
use Rattle.bmx_replica.specs.Layouts.{kinds_in}
use Rattle.bmx_replica.specs.Replicas.{Holding, value_in}
use Rattle.bmx_replica.proofs.Laid.{IsLive-from}
use Rattle.bmx_replica.proofs.Fielded.{field_of-found}
use Rattle.bmx_replica.proofs.replica.Replica.field_in.Goals as goal

pub kind_in-requires-clause-known : goal.kind_in-requires-clause-known
kind_in-requires-clause-known c =
    let h : Header = c.args.found.now.header in
    let f = c.requires.found in
    let k : c.in-Live.kinds ≡ kinds_in h.state = sym (ap kinds_in c.in-Live.is) in
    rw k ((c.requires.replica.fields c.args.found.now.slot.address c.args.i h f.there f.live c.requires.field).known)

pub word-requires : goal.word-requires
word-requires c =
    let s : Slot = c.args.found.now.slot in
    let h : Header = c.args.found.now.header in
    let f = c.requires.found in
    let there : header_at c.self.inside.segments.blocks s.address ≡ Some h = ap (λ (r : Holding). header_at r.heap.blocks s.address) c.self.view_is ∙ f.there in
    rw there (IsLive-from h.state f.live, c.requires.field)

pub value-requires : goal.value-requires
value-requires c =
    let r : Holding = c.args.self.now in
    let s : Slot = c.args.found.now.slot in
    let h : Header = c.args.found.now.header in
    let f = c.requires.found in
    let k : kind_number c.kind_in.result ≡ kind_of (kinds_in h.state) c.args.i = c.kind_in.ensures ∙ ap (λ n. kind_of n c.args.i) (sym (ap kinds_in c.in-Live.is)) in
    let w : c.word.result ≡ word_at r.heap.blocks (s.address + 4 + c.args.i) = c.word.ensures ∙ ap (λ (x : Holding). word_at x.heap.blocks (s.address + 4 + c.args.i)) c.self.view_is in
    rw (k, w) (c.requires.replica.fields s.address c.args.i h f.there f.live c.requires.field)

pub returns : goal.returns
returns c =
    let r : Holding = c.args.self.now in
    let s : Slot = c.args.found.now.slot in
    let h : Header = c.args.found.now.header in
    let f = c.requires.found in
    let k : kind_number c.kind_in.result ≡ kind_of (kinds_in h.state) c.args.i = c.kind_in.ensures ∙ ap (λ n. kind_of n c.args.i) (sym (ap kinds_in c.in-Live.is)) in
    let w : c.word.result ≡ word_at r.heap.blocks (s.address + 4 + c.args.i) = c.word.ensures ∙ ap (λ (x : Holding). word_at x.heap.blocks (s.address + 4 + c.args.i)) c.self.view_is in
    field_of-found r h.name s h f c.args.i c.requires.copy c.requires.field
    ∙ sym (ap Some (c.value.ensures ∙ ap (λ n. value_in r.heap.blocks n c.word.result) k ∙ ap (value_in r.heap.blocks (kind_of (kinds_in h.state) c.args.i)) w))
