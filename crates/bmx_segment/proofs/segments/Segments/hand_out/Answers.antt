use Rattle.std.proofs.Common.{◌≡◌, ℕ, ◌+◌, ◌-◌, ◌≤◌, List, get_or, set, sym, ap, subst, refl, ◌∙◌, arith}
use Rattle.std.proofs.lemmas.Option.{get_or_from_slice_get}
use Rattle.bmx_types.specs.Words.{address_word}
use Rattle.bmx_segment.specs.Stores.{IsMapped}
use Rattle.bmx_segment.specs.Heaps.{Heap, own_at, handed_in, left_of, with_handed}
use Rattle.bmx_segment.specs.declared.segments.Own.{Own}
use Rattle.bmx_segment.specs.contracts.segments.Segments.{the_view}
use Rattle.bmx_segment.proofs.Owning.{made_with, own_at-within, raised-set}
use Rattle.bmx_segment.proofs.Heaping.{IsHeap-handed, CanSet-handed}
use Rattle.bmx_segment.proofs.segments.Segments.hand_out.Goals as goal

pub invariant_of-self : goal.invariant_of-self
invariant_of-self c =
    let n : ℕ = c.args.number in
    let more : ℕ = 4 + c.args.size in
    let h : Heap = the_view c.self.inside in
    let own : List Own = c.self.inside.own.items in
    let y : Own = c.index_mut-own.result.now in
    let Room : Heap → Type 0 = λ x. 4 + c.args.size ≤ left_of x c.args.number in
    let room : Room h = subst Room (sym c.self.view_is) c.requires.room in
    let got = made_with (own_at own n) more (omega arith) room in
    let w = own_at-within own n got.0 got.1 in
    let some = w.0 in
    let made = w.1 in
    let is : y ≡ get_or own (n - 1) y = c.index_mut-own.ensures.value in
    let same : y ≡ got.0 = is ∙ get_or_from_slice_get own (n - 1) got.0 y w.2 in
    let set_is : set own (n - 1) (record y { handed = y.handed + more }) ≡ with_handed own n more = raised-set own (n - 1) more y (omega arith) is in
    rw set_is (IsHeap-handed h n more got.0 c.self.invariant got.1 got.2)

pub returns-clause-placed : goal.returns-clause-placed
returns-clause-placed c =
    let n : ℕ = c.args.number in
    let more : ℕ = 4 + c.args.size in
    let h : Heap = the_view c.self.inside in
    let own : List Own = c.self.inside.own.items in
    let y : Own = c.index_mut-own.result.now in
    let Room : Heap → Type 0 = λ x. 4 + c.args.size ≤ left_of x c.args.number in
    let room : Room h = subst Room (sym c.self.view_is) c.requires.room in
    let got = made_with (own_at own n) more (omega arith) room in
    let w = own_at-within own n got.0 got.1 in
    let some = w.0 in
    let made = w.1 in
    let is : y ≡ get_or own (n - 1) y = c.index_mut-own.ensures.value in
    let same : y ≡ got.0 = is ∙ get_or_from_slice_get own (n - 1) got.0 y w.2 in
    let set_is : set own (n - 1) (record y { handed = y.handed + more }) ≡ with_handed own n more = raised-set own (n - 1) more y (omega arith) is in
    let handed : handed_in (own_at own n) ≡ y.handed = ap handed_in got.1 ∙ sym (ap (λ (o : Own). o.handed) same) in
    rw (← c.self.view_is) (record {
      address = c.in-Some.ensures.value ∙ ap (λ (k : ℕ). address_word c.self.inside.me n k) (sym handed);
      handed = ap (λ (os : List Own). let x : Heap = record h { own = os } in x) set_is;
    })

pub returns-clause-free : goal.returns-clause-free
returns-clause-free c = λ name.
    let n : ℕ = c.args.number in
    let more : ℕ = 4 + c.args.size in
    let h : Heap = the_view c.self.inside in
    let own : List Own = c.self.inside.own.items in
    let y : Own = c.index_mut-own.result.now in
    let Room : Heap → Type 0 = λ x. 4 + c.args.size ≤ left_of x c.args.number in
    let room : Room h = subst Room (sym c.self.view_is) c.requires.room in
    let got = made_with (own_at own n) more (omega arith) room in
    let w = own_at-within own n got.0 got.1 in
    let some = w.0 in
    let made = w.1 in
    let is : y ≡ get_or own (n - 1) y = c.index_mut-own.ensures.value in
    let same : y ≡ got.0 = is ∙ get_or_from_slice_get own (n - 1) got.0 y w.2 in
    let set_is : set own (n - 1) (record y { handed = y.handed + more }) ≡ with_handed own n more = raised-set own (n - 1) more y (omega arith) is in
    let Mapped : Heap → Type 0 = λ x. IsMapped x.blocks x.me c.args.number in
    let mapped : Mapped h = subst Mapped (sym c.self.view_is) c.requires.mapped in
    let free = CanSet-handed h n more got.0 c.self.invariant got.1 got.2 name c.args.size refl mapped in
    let address : c.in-Some.address ≡ address_word h.me n got.0.handed =
    c.in-Some.ensures.value ∙ ap (λ (k : ℕ). address_word c.self.inside.me n k) (ap (λ (o : Own). o.handed) same) in
    rw (set_is, address) free
