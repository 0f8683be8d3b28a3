use Rattle.std.proofs.Common.{[], ◌∷◌, ◌++◌}
use Rattle.bmx_lanes.proofs.Sending.{inbox_set, OnOk-map}
use Rattle.bmx_lanes.proofs.lanes.Lanes.push.Goals as goal

pub returns-clause-ok : goal.returns-clause-ok
returns-clause-ok g c = OnOk-map c.push.result
    (λ pushed. rw (← c.self.view_is) (inbox_set c.self.inside.inboxes.items c.get.result c.args.from c.args.to c.index_mut.result.now c.push.new.self (λ l. l ++ c.args.item ∷ [])
    c.self.invariant c.get.ensures.bound c.get.ensures.value c.index_mut.ensures.value pushed))
    c.push.ensures.ok
