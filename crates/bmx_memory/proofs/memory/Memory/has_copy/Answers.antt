use Rattle.std.proofs.Common.{is_some, sym, ap, ◌∙◌}
use Rattle.bmx_replica.specs.Replicas.{copy_of}
use Rattle.bmx_memory.specs.Contents.{Contents}
use Rattle.bmx_memory.specs.Shown.{shown, has_copy}
use Rattle.bmx_memory.specs.contracts.memory.Memory.{the_view}
use Rattle.bmx_memory.proofs.Shows.{copy_shown, same_truth}
use Rattle.bmx_memory.proofs.memory.Memory.has_copy.Goals as goal

pub returns : goal.returns
returns c =
    let m = the_view c.self.inside in
    same_truth c.has_copy.result (is_some (copy_of m.replica c.args.name)) c.has_copy.ensures.0 c.has_copy.ensures.1
    ∙ sym (copy_shown m c.args.name) ∙ ap (λ (n : Contents). has_copy (shown n) c.args.name) c.self.view_is
