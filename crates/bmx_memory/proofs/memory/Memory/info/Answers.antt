use Rattle.std.proofs.Common.{ap, ◌∙◌}
use Rattle.bmx_memory.specs.Contents.{Contents}
use Rattle.bmx_memory.specs.Shown.{shown, info_of}
use Rattle.bmx_memory.specs.contracts.memory.Memory.{the_view}
use Rattle.bmx_memory.proofs.Shows.{info_shown}
use Rattle.bmx_memory.proofs.memory.Memory.info.Goals as goal

pub returns : goal.returns
returns c = c.info.ensures ∙ info_shown (the_view c.self.inside) c.args.name ∙ ap (λ (m : Contents). info_of (shown m) c.args.name) c.self.view_is
