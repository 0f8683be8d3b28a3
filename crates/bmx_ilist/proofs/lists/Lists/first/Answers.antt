use Rattle.std.proofs.Common.{ap}
use Rattle.bmx_ilist.specs.Sequences.{Sequences}
use Rattle.bmx_ilist.proofs.Steps.{apart_in}
use Rattle.bmx_ilist.proofs.lists.Lists.first.Goals as goal

pub returns-clause-apart : goal.returns-clause-apart
returns-clause-apart c =
    apart_in c.self.inside.seats c.self.inside.ends.items c.args.self.now c.self.invariant (ap (λ (v : Sequences). v.lists) c.self.view_is) (ap (λ (v : Sequences). v.live) c.self.view_is)
