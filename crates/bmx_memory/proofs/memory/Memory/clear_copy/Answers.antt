use Rattle.std.proofs.Common.{None, ap, ◌∙◌}
use Rattle.bmx_memory.specs.Contents.{Contents}
use Rattle.bmx_memory.specs.Shown.{shown, with_copy}
use Rattle.bmx_memory.specs.contracts.memory.Memory.{the_view}
use Rattle.bmx_memory.proofs.Kept.{kept_changed}
use Rattle.bmx_memory.proofs.Seen.{none_died-seen, recast_cleared, shown_cleared}
use Rattle.bmx_memory.proofs.memory.Memory.clear_copy.Goals as goal

pub invariant_of-self : goal.invariant_of-self
invariant_of-self c =
    let m = the_view c.self.inside in
    let new = c.clear_copy.new.self in
    let sound = c.segments-sound.ensures in (
      kept_changed m new c.self.invariant.0 (record { replica = sound.replica; heap = sound.kept; apart = sound.apart })
          (none_died-seen m.replica.heap.blocks new.heap.blocks (recast_cleared m.replica new c.args.name c.self.invariant.0.sound.replica c.clear_copy.ensures).headers c.self.invariant.0.standing)
          c.clear_copy.ensures.keeps.names,
      tt,
    )

pub returns-clause-shown : goal.returns-clause-shown
returns-clause-shown c =
    shown_cleared (the_view c.self.inside) c.clear_copy.new.self c.args.name c.self.invariant.0 c.clear_copy.ensures
    ∙ ap (λ (m : Contents). with_copy (shown m) c.args.name None) c.self.view_is
