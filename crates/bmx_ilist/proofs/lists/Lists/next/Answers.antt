use Rattle.std.proofs.Common.{sym, ap, ◌∙◌}
use Rattle.slab.specs.Slab.{get}
use Rattle.bmx_ilist.specs.Sequences.{Sequences, next_in}
use Rattle.bmx_ilist.specs.Inside.Links.{lists_in}
use Rattle.bmx_ilist.proofs.Steps.{next_is, next_is_none, apart_in}
use Rattle.bmx_ilist.proofs.lists.Lists.next.Goals as goal

pub returns-in-Some-clause-value : goal.returns-in-Some-clause-value
returns-in-Some-clause-value c =
    next_is (get c.self.inside.seats) c.self.inside.ends.items (lists_in c.self.inside.seats c.self.inside.ends.items) c.self.invariant c.args.key c.in-Some.seat (sym c.in-Some.ensures)
    ∙ ap (λ (v : Sequences). next_in v.lists c.args.key) c.self.view_is

pub returns-in-Some-clause-apart : goal.returns-in-Some-clause-apart
returns-in-Some-clause-apart c =
    apart_in c.self.inside.seats c.self.inside.ends.items c.args.self.now c.self.invariant (ap (λ (v : Sequences). v.lists) c.self.view_is) (ap (λ (v : Sequences). v.live) c.self.view_is)

pub returns-in-None-clause-value : goal.returns-in-None-clause-value
returns-in-None-clause-value c =
    next_is_none (get c.self.inside.seats) c.self.inside.ends.items (lists_in c.self.inside.seats c.self.inside.ends.items) c.self.invariant c.args.key (sym c.in-None.ensures)
    ∙ ap (λ (v : Sequences). next_in v.lists c.args.key) c.self.view_is

pub returns-in-None-clause-apart : goal.returns-in-None-clause-apart
returns-in-None-clause-apart c =
    apart_in c.self.inside.seats c.self.inside.ends.items c.args.self.now c.self.invariant (ap (λ (v : Sequences). v.lists) c.self.view_is) (ap (λ (v : Sequences). v.live) c.self.view_is)
