use Rattle.std.proofs.Common.{◌≡◌, Some, map, length, sym, ap, subst, ◌∙◌}
use Rattle.std.specs.Prelude.{All, IsSomeAnd}
use Rattle.bmx_protocol.specs.Nodes.{value_in}
use Rattle.bmx_protocol.specs.Rules.{heard_field}
use Rattle.bmx_replica.specs.Letters.{values_told}
use Rattle.bmx_memory.specs.Contents.{Contents}
use Rattle.bmx_memory.specs.Shown.{Object, HasEntry, shown, with_copy}
use Rattle.bmx_memory.specs.contracts.memory.Memory.{the_view}
use Rattle.bmx_memory.proofs.Kept.{kept_changed}
use Rattle.bmx_memory.proofs.Seen.{none_died-seen}
use Rattle.bmx_memory.proofs.Installed.{size_shown, targets_shown, recast_installed, shown_installed}
use Rattle.bmx_memory.proofs.memory.Memory.install.Goals as goal

pub install-requires-clause-size : goal.install-requires-clause-size
install-requires-clause-size c =
    size_shown (the_view c.self.inside) c.args.name (length c.args.fields.now)
    (subst (λ (m : Contents). IsSomeAnd ((shown m).object c.args.name) (λ (o : Object). length c.args.fields.now ≡ o.size)) (sym c.self.view_is) c.requires.size)

pub install-requires-clause-targets : goal.install-requires-clause-targets
install-requires-clause-targets c =
    targets_shown (the_view c.self.inside) c.args.fields.now
    (subst (λ (m : Contents). All (λ f. HasEntry (shown m) (value_in (heard_field f))) c.args.fields.now) (sym c.self.view_is) c.requires.known)

pub invariant_of-self : goal.invariant_of-self
invariant_of-self c =
    let m = the_view c.self.inside in
    let new = c.install.new.self in
    let sound = c.segments-sound.ensures in (
      kept_changed m new c.self.invariant.0 (record { replica = sound.replica; heap = sound.kept; apart = sound.apart })
          (none_died-seen m.replica.heap.blocks new.heap.blocks (recast_installed m.replica new c.args.name (values_told c.args.fields.now) c.self.invariant.0.sound.replica c.install.ensures).headers c.self.invariant.0.standing)
          c.install.ensures.keeps.names,
      tt,
    )

pub returns-clause-shown : goal.returns-clause-shown
returns-clause-shown c =
    shown_installed (the_view c.self.inside) c.install.new.self c.args.name c.args.fields.now c.self.invariant.0 c.install.ensures
    ∙ ap (λ (m : Contents). with_copy (shown m) c.args.name (Some (map heard_field c.args.fields.now))) c.self.view_is
