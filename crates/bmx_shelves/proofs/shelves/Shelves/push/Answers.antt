use Rattle.std.proofs.Common.{sym}
use Rattle.bmx_shelves.specs.Inside.Keyed.{found}
use Rattle.bmx_shelves.proofs.Calls.{pushes}
use Rattle.bmx_shelves.proofs.shelves.Shelves.push.Goals as goal

pub invariant_of-self : goal.invariant_of-self
invariant_of-self g c =
    let done = pushes (found c.self.inside.items.entries) (found c.put.new.items.entries) c.self.inside.lists c.move_to.new.self.lists c.self.inside.count c.args.shelf c.in-Some.key c.args.item c.self.invariant (rw (← c.self.view_is) at c.requires.shelf) c.first.ensures.apart (sym c.in-Some.ensures.value) c.move_to.ensures.lists c.put.ensures.here c.put.ensures.others in
    done.sound

pub returns-clause-shelf : goal.returns-clause-shelf
returns-clause-shelf g c =
    let done = pushes (found c.self.inside.items.entries) (found c.put.new.items.entries) c.self.inside.lists c.move_to.new.self.lists c.self.inside.count c.args.shelf c.in-Some.key c.args.item c.self.invariant (rw (← c.self.view_is) at c.requires.shelf) c.first.ensures.apart (sym c.in-Some.ensures.value) c.move_to.ensures.lists c.put.ensures.here c.put.ensures.others in
    rw (← c.self.view_is) done.behind

pub returns-clause-others : goal.returns-clause-others
returns-clause-others g c =
    let done = pushes (found c.self.inside.items.entries) (found c.put.new.items.entries) c.self.inside.lists c.move_to.new.self.lists c.self.inside.count c.args.shelf c.in-Some.key c.args.item c.self.invariant (rw (← c.self.view_is) at c.requires.shelf) c.first.ensures.apart (sym c.in-Some.ensures.value) c.move_to.ensures.lists c.put.ensures.here c.put.ensures.others in
    rw (← c.self.view_is) done.others

pub returns-clause-spare : goal.returns-clause-spare
returns-clause-spare g c =
    let done = pushes (found c.self.inside.items.entries) (found c.put.new.items.entries) c.self.inside.lists c.move_to.new.self.lists c.self.inside.count c.args.shelf c.in-Some.key c.args.item c.self.invariant (rw (← c.self.view_is) at c.requires.shelf) c.first.ensures.apart (sym c.in-Some.ensures.value) c.move_to.ensures.lists c.put.ensures.here c.put.ensures.others in
    rw (← c.self.view_is) done.spare
