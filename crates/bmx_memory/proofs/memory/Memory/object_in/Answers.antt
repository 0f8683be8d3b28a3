use Rattle.std.proofs.Common.{sym, ap, ◌∙◌}
use Rattle.bmx_segment.specs.Headers.{kind_number}
use Rattle.bmx_replica.specs.Replicas.{target_in}
use Rattle.bmx_memory.specs.Contents.{Contents}
use Rattle.bmx_memory.specs.Shown.{shown}
use Rattle.bmx_memory.specs.contracts.memory.Memory.{the_view}
use Rattle.bmx_memory.proofs.Reached.{target_held}
use Rattle.bmx_memory.proofs.Shows.{register_shown}
use Rattle.bmx_memory.proofs.memory.Memory.object_in.Goals as goal

pub object_of-requires-clause-field : goal.object_of-requires-clause-field
object_of-requires-clause-field c = c.self.invariant.0.held c.args.register c.at.result c.at.ensures.word

pub object_of-requires-clause-target : goal.object_of-requires-clause-target
object_of-requires-clause-target c =
    let m = the_view c.self.inside in
    let kept = c.self.invariant.0 in
    target_held m.replica kept.sound.replica kept.standing (kind_number c.at.result.kind) c.at.result.word (kept.held c.args.register c.at.result c.at.ensures.word)

pub returns-clause-named : goal.returns-clause-named
returns-clause-named c =
    c.object_of.ensures.named
    ∙ ap target_in (sym (register_shown (the_view c.self.inside) c.args.register c.at.result c.at.ensures.word) ∙ ap (λ (m : Contents). (shown m).register c.args.register) c.self.view_is)
