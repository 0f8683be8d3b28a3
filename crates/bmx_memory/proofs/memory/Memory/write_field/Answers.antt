use Rattle.std.proofs.Common.{IsSome, sym, ap, subst, ◌∙◌}
use Rattle.bmx_memory.specs.Contents.{Contents}
use Rattle.bmx_memory.specs.Shown.{shown, HasEntry, value_of, with_stored}
use Rattle.bmx_memory.specs.contracts.memory.Memory.{the_view}
use Rattle.bmx_memory.proofs.Kept.{kept_changed}
use Rattle.bmx_memory.proofs.Seen.{none_died-seen, seen_field, shown_written}
use Rattle.bmx_memory.proofs.Shows.{target_shown, value_shown, some_map}
use Rattle.bmx_replica.specs.Replicas.{StandsAt}
use Rattle.bmx_memory.specs.Inside.Keeping.{IsSeen}
use Rattle.bmx_memory.proofs.memory.Memory.write_field.Goals as goal

pub store-requires-clause-stands : goal.store-requires-clause-stands
store-requires-clause-stands c =
    some_map c.self.inside.seen (IsSeen (the_view c.self.inside)) (λ s. StandsAt c.self.inside.replica s.object) (λ s seen. seen.stands) c.self.invariant.1

pub store-requires-clause-field : goal.store-requires-clause-field
store-requires-clause-field c =
    subst IsSome (ap (λ (m : Contents). value_of (shown m) c.args.name c.args.i) (sym c.self.view_is) ∙ value_shown (the_view c.self.inside) c.args.name c.args.i) c.requires.field

pub store-requires-clause-target : goal.store-requires-clause-target
store-requires-clause-target c =
    target_shown (the_view c.self.inside) c.args.value (subst (λ (m : Contents). HasEntry (shown m) c.args.value) (sym c.self.view_is) c.requires.known)

pub invariant_of-self : goal.invariant_of-self
invariant_of-self c =
    let m = the_view c.self.inside in
    let new = c.store.new.replica in
    let sound = c.segments-sound.ensures in (
      kept_changed m new c.self.invariant.0 (record { replica = sound.replica; heap = sound.kept; apart = sound.apart })
          (none_died-seen m.replica.heap.blocks new.heap.blocks (seen_field m.replica new c.args.name c.args.i c.args.value c.store.ensures) c.self.invariant.0.standing)
          c.store.ensures.keeps.names,
      tt,
    )

pub returns-clause-shown : goal.returns-clause-shown
returns-clause-shown c =
    shown_written (the_view c.self.inside) c.store.new.replica c.args.name c.args.i c.args.value c.self.invariant.0 c.store.ensures
    ∙ ap (λ (m : Contents). with_stored (shown m) c.args.name c.args.i c.args.value) c.self.view_is
