use Rattle.bmx_node.specs.Seen.{state_of}
use Rattle.bmx_node.specs.Inside.Reacting.{lies_at}
use Rattle.std.proofs.Common.{sym, ◌∙◌}
use Rattle.bmx_node.proofs.Queueing.{info_same, info_granted, sees_itself}
use Rattle.bmx_node.proofs.holdings.Holdings.grant.Goals as goal

pub returns-clause-info : goal.returns-clause-info
returns-clause-info c = info_granted _ c.in-Some.info _ c.in-Some.is (c.info.ensures ∙ info_same c.args.self.now c.args.name c.requires.keeps c.requires.there)

pub returns-clause-fields : goal.returns-clause-fields
returns-clause-fields c = c.in_ok-fields.ensures (state_of c.args.self.now) (lies_at c.args.self.now) (sees_itself c.args.self.now)
