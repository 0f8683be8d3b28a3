use Rattle.std.proofs.Common.{sym}
use Rattle.bmx_shelves.specs.Inside.Keyed.{found}
use Rattle.bmx_shelves.proofs.Calls.{moves}
use Rattle.bmx_shelves.proofs.shelves.Shelves.move_front.Goals as goal

pub invariant_of-self : goal.invariant_of-self
invariant_of-self g c =
    let done = moves (found c.self.inside.items.entries) c.self.inside.lists c.move_to.new.self.lists c.self.inside.count c.args.from c.args.to c.in-Some.key c.self.invariant (rw (← c.self.view_is) at c.requires.from) (rw (← c.self.view_is) at c.requires.to) c.requires.apart c.first.ensures.apart (sym c.in-Some.ensures.value) c.move_to.ensures.lists in
    done.sound

pub returns-clause-from : goal.returns-clause-from
returns-clause-from g c =
    let done = moves (found c.self.inside.items.entries) c.self.inside.lists c.move_to.new.self.lists c.self.inside.count c.args.from c.args.to c.in-Some.key c.self.invariant (rw (← c.self.view_is) at c.requires.from) (rw (← c.self.view_is) at c.requires.to) c.requires.apart c.first.ensures.apart (sym c.in-Some.ensures.value) c.move_to.ensures.lists in
    rw (← c.self.view_is) done.rest

pub returns-clause-to : goal.returns-clause-to
returns-clause-to g c =
    let done = moves (found c.self.inside.items.entries) c.self.inside.lists c.move_to.new.self.lists c.self.inside.count c.args.from c.args.to c.in-Some.key c.self.invariant (rw (← c.self.view_is) at c.requires.from) (rw (← c.self.view_is) at c.requires.to) c.requires.apart c.first.ensures.apart (sym c.in-Some.ensures.value) c.move_to.ensures.lists in
    rw (← c.self.view_is) done.behind

pub returns-clause-others : goal.returns-clause-others
returns-clause-others g c =
    let done = moves (found c.self.inside.items.entries) c.self.inside.lists c.move_to.new.self.lists c.self.inside.count c.args.from c.args.to c.in-Some.key c.self.invariant (rw (← c.self.view_is) at c.requires.from) (rw (← c.self.view_is) at c.requires.to) c.requires.apart c.first.ensures.apart (sym c.in-Some.ensures.value) c.move_to.ensures.lists in
    rw (← c.self.view_is) done.others

pub returns-clause-spare : goal.returns-clause-spare
returns-clause-spare g c =
    let done = moves (found c.self.inside.items.entries) c.self.inside.lists c.move_to.new.self.lists c.self.inside.count c.args.from c.args.to c.in-Some.key c.self.invariant (rw (← c.self.view_is) at c.requires.from) (rw (← c.self.view_is) at c.requires.to) c.requires.apart c.first.ensures.apart (sym c.in-Some.ensures.value) c.move_to.ensures.lists in
    rw (← c.self.view_is) done.spare
