use Rattle.std.proofs.Common.{sym, ◌∙◌}
use Rattle.bmx_ilist.proofs.Steps.{popped_is}
use Rattle.bmx_ilist.proofs.lists.Lists.pop_front.Goals as goal

pub returns-clause-lists : goal.returns-clause-lists
returns-clause-lists c =
    c.unlink.ensures.lists ∙ popped_is c.args.self.now c.args.list c.in_ok-key.key c.in_ok-key.ensures.apart (sym c.in_ok-key.ensures.value)
