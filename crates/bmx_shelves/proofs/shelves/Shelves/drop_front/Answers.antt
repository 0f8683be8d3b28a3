use Rattle.std.proofs.Common.{is_some, sym, ap, inl}
use Rattle.bmx_shelves.specs.Inside.Keyed.{found}
use Rattle.bmx_shelves.proofs.Calls.{within, first_item, drops}
use Rattle.bmx_shelves.proofs.shelves.Shelves.drop_front.Goals as goal

pub put-requires : goal.put-requires
put-requires g c =
    let has = found c.self.inside.items.entries in
    let lists = c.self.inside.lists.lists in
    let count = c.self.inside.count in
    let low = within has lists count c.args.shelf c.self.invariant (rw (← c.self.view_is) at c.requires.shelf) in
    inl (ap is_some (first_item has lists count c.args.shelf c.in-Some.key c.self.invariant low (sym c.in-Some.ensures.value)).1)

pub invariant_of-self : goal.invariant_of-self
invariant_of-self g c =
    let done = drops (found c.self.inside.items.entries) (found c.put.new.items.entries) c.self.inside.lists c.move_to.new.self.lists c.self.inside.count c.args.shelf c.in-Some.key c.self.invariant (rw (← c.self.view_is) at c.requires.shelf) c.first.ensures.apart (sym c.in-Some.ensures.value) c.move_to.ensures.lists c.put.ensures.here c.put.ensures.others in
    done.sound

pub returns-clause-shelf : goal.returns-clause-shelf
returns-clause-shelf g c =
    let done = drops (found c.self.inside.items.entries) (found c.put.new.items.entries) c.self.inside.lists c.move_to.new.self.lists c.self.inside.count c.args.shelf c.in-Some.key c.self.invariant (rw (← c.self.view_is) at c.requires.shelf) c.first.ensures.apart (sym c.in-Some.ensures.value) c.move_to.ensures.lists c.put.ensures.here c.put.ensures.others in
    rw (← c.self.view_is) done.rest

pub returns-clause-others : goal.returns-clause-others
returns-clause-others g c =
    let done = drops (found c.self.inside.items.entries) (found c.put.new.items.entries) c.self.inside.lists c.move_to.new.self.lists c.self.inside.count c.args.shelf c.in-Some.key c.self.invariant (rw (← c.self.view_is) at c.requires.shelf) c.first.ensures.apart (sym c.in-Some.ensures.value) c.move_to.ensures.lists c.put.ensures.here c.put.ensures.others in
    rw (← c.self.view_is) done.others

pub returns-clause-spare : goal.returns-clause-spare
returns-clause-spare g c =
    let done = drops (found c.self.inside.items.entries) (found c.put.new.items.entries) c.self.inside.lists c.move_to.new.self.lists c.self.inside.count c.args.shelf c.in-Some.key c.self.invariant (rw (← c.self.view_is) at c.requires.shelf) c.first.ensures.apart (sym c.in-Some.ensures.value) c.move_to.ensures.lists c.put.ensures.here c.put.ensures.others in
    rw (← c.self.view_is) done.spare
