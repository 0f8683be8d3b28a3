use Rattle.std.proofs.Common.{ap, ◌∙◌}
use Rattle.bmx_graph.specs.State.{State}
use Rattle.bmx_graph.specs.Step.{target_of}
use Rattle.bmx_node.proofs.Graphing.{graph_is}
use Rattle.bmx_node.proofs.holdings.Holdings.target.Goals as goal

pub returns : goal.returns
returns c = c.target.ensures ∙ ap (λ (g : State). target_of g c.args.self.now.me c.args.on) (graph_is c.args.self.now c.requires.keeps)
