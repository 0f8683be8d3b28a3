use Rattle.std.proofs.Common.{ap, ◌∙◌}
use Rattle.bmx_ilist.specs.Sequences.{is_in_list}
use Rattle.bmx_ilist.proofs.Steps.{unlinked_loose}
use Rattle.bmx_ilist.proofs.lists.Lists.move_to.Goals as goal

pub push_back-requires-clause-loose : goal.push_back-requires-clause-loose
push_back-requires-clause-loose c = ap (λ lists. is_in_list lists c.args.key) c.unlink.ensures.lists ∙ unlinked_loose c.args.key c.args.self.now.lists
