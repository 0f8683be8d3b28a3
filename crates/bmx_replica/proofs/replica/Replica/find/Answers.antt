use Rattle.std.proofs.Common.{◌≡◌, ℕ, Some, sym, ap, ◌∙◌}
use Rattle.std.specs.Option.{option_map}
use Rattle.std.proofs.lemmas.Option.{same_Some}
use Rattle.bmx_segment.specs.declared.headers.Header.{Header}
use Rattle.bmx_replica.specs.Slots.{address_of, slot_of}
use Rattle.bmx_replica.specs.declared.directory.Slot.{Slot}
use Rattle.bmx_replica.specs.Chains.{is_live}
use Rattle.bmx_replica.proofs.Chained.{alive}
use Rattle.bmx_replica.proofs.replica.Replica.find.Goals as goal

pub unreachable-requires : goal.unreachable-requires
unreachable-requires c =
    let a : ℕ = c.in_ok-slot.slot.address in
    let slot : Some c.in_ok-slot.slot ≡ slot_of c.self.inside.directory.slots c.args.name = c.in_ok-slot.ensures in
    let place : address_of c.self.inside.directory.slots c.args.name ≡ Some a = ap (option_map (λ (s : Slot). s.address)) (sym slot) in
    let t = alive c.self.inside.segments.blocks a c.args.name ((c.self.invariant.1.entries c.args.name a).0 place) in
    c.in_default.not-Some t.0 (c.header.ensures.value ∙ t.1)

pub returns-clause-found : goal.returns-clause-found
returns-clause-found c =
    let a : ℕ = c.in_ok-slot.slot.address in
    let h : Header = c.in-Some.header in
    let slot : Some c.in_ok-slot.slot ≡ slot_of c.self.inside.directory.slots c.args.name = c.in_ok-slot.ensures in
    let place : address_of c.self.inside.directory.slots c.args.name ≡ Some a = ap (option_map (λ (s : Slot). s.address)) (sym slot) in
    let t = alive c.self.inside.segments.blocks a c.args.name ((c.self.invariant.1.entries c.args.name a).0 place) in
    let is : h ≡ t.0 = same_Some h t.0 (c.in-Some.ensures.value ∙ t.1) in
    rw (← c.self.view_is) (record {
      slot = sym slot;
      there = sym c.in-Some.ensures.value;
      live = ap (λ (x : Header). is_live x.state) is ∙ t.2;
      named = ap (λ (x : Header). x.name) is ∙ t.3;
    })
