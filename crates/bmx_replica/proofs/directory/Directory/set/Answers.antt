use Rattle.std.proofs.Common.{◌≡◌, ℕ, List, Some, None, IsSome, ◌∙◌, sym, ap, subst}
use Rattle.std.proofs.lemmas.Bool.{false≢true}
use Rattle.std.specs.Map.{lookup}
use Rattle.std.specs.Option.{option_copied_mut}
use Rattle.bmx_replica.proofs.Slotted.{slot_of-lookup, PutsSlot-from, same_name}
use Rattle.bmx_replica.specs.Slots.{slot_of}
use Rattle.bmx_replica.specs.declared.directory.Slot.{Slot}
use Rattle.bmx_replica.proofs.directory.Directory.set.Goals as goal

pub unreachable-requires : goal.unreachable-requires
unreachable-requires c =
    let es : List (ℕ × Slot) = c.self.inside.slots.entries in
    let none : slot_of es c.args.name ≡ None = sym (slot_of-lookup es c.args.name) ∙ sym c.get_mut.ensures.value ∙ ap option_copied_mut c.in_default.is in
    let there : IsSome (slot_of es c.args.name) = rw (← c.self.view_is) at c.requires in
    false≢true (subst IsSome none there)

pub returns-clause-slots : goal.returns-clause-slots
returns-clause-slots c =
    let es : List (ℕ × Slot) = c.self.inside.slots.entries in
    let h = c.get_mut.follows.holds c.args.slot in
    let had : IsSome (slot_of es c.args.name) = rw (← c.self.view_is) at c.requires in
    let there : IsSome (lookup (same_name c.args.name) es) = subst IsSome (sym (slot_of-lookup es c.args.name)) had in
    rw (← c.self.view_is) (PutsSlot-from es _ c.args.name (Some c.args.slot) (h.3 there).0)
