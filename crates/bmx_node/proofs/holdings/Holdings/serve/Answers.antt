use Rattle.std.proofs.Common.{sym, ◌∙◌}
use Rattle.bmx_token.specs.Transitions.{Serves}
use Rattle.bmx_protocol.specs.declared.inputs.NodeAnswer.TheVariants as answer
use Rattle.bmx_node.proofs.Operating.{does_unknown}
use Rattle.bmx_node.proofs.Queueing.{idle_does}
use Rattle.bmx_node.proofs.holdings.Holdings.serve.Goals as goal

pub returns-in_default-clause-does : goal.returns-in_default-clause-does
returns-in_default-clause-does c =
    rw c.tell.ensures (does_unknown c.args.stamp c.args.self.now Serves answer.Idle c.args.name c.requires (rw c.in_default.is at c.get.ensures.none))

pub returns-in-Idle-clause-does : goal.returns-in-Idle-clause-does
returns-in-Idle-clause-does c =
    rw c.tell-in-Idle.ensures (idle_does c.args.stamp c.args.self.now c.args.name c.in-Some.part.now c.service.result c.requires c.in-Some.ensures.some c.service.ensures c.in-Idle.is)

pub returns-in-Ready-clause-does : goal.returns-in-Ready-clause-does
returns-in-Ready-clause-does c = c.make_ready.ensures.does c.args.stamp
