use Rattle.std.proofs.Common.{◌≡◌, ◌<◌, true, length, set, is_some, sym, ap, ◌∙◌, subst, rules}
use Rattle.slab.specs.Slab.{get}
use Rattle.bmx_ilist.specs.Sequences.{Sequences, has_key, is_in_list, keys_of, unlinked}
use Rattle.bmx_ilist.specs.Inside.Links.{Means, lists_in}
use Rattle.bmx_ilist.proofs.Keys.{clash}
use Rattle.bmx_ilist.proofs.Links.{lists_in-is}
use Rattle.bmx_ilist.proofs.Live.{live_in, lives, live-unlinked}
use Rattle.bmx_ilist.proofs.Steps.{settled, some_list, unseated_loose, found_seat, seat_within, unlinked_step}
use Rattle.bmx_ilist.proofs.lists.Lists.unlink.Goals as goal

pub index-requires : goal.index-requires
index-requires c =
    let within : c.in-Some.seat.list < length c.self.inside.ends.items = seat_within c.self.inside.seats c.self.inside.ends.items (lists_in c.self.inside.seats c.self.inside.ends.items) c.args.key c.in-Some.seat c.self.invariant (sym c.in-Some.ensures) in
    search rules

pub index_mut-requires : goal.index_mut-requires
index_mut-requires c =
    let within : c.in-Some.seat.list < length c.self.inside.ends.items = seat_within c.self.inside.seats c.self.inside.ends.items (lists_in c.self.inside.seats c.self.inside.ends.items) c.args.key c.in-Some.seat c.self.invariant (sym c.in-Some.ensures) in
    search rules

stays : (c : goal.After-self-1) → Means (get c.put.new.seats) (set c.self.inside.ends.items c.in-Some.seat.list c.unlinked.result) (unlinked c.args.key (lists_in c.self.inside.seats c.self.inside.ends.items))
stays c =
    let ends = c.self.inside.ends.items in
    let lists = lists_in c.self.inside.seats ends in
    subst (λ e. Means (get c.put.new.seats) (set ends c.in-Some.seat.list e) (unlinked c.args.key lists)) (sym c.unlinked.ensures)
    (unlinked_step c.self.inside.seats c.set_next.new.seats c.set_previous.new.seats c.put.new.seats ends lists c.args.key c.in-Some.seat c.index.result.now c.self.invariant (sym c.in-Some.ensures) c.index.ensures c.set_next.ensures.seats c.set_previous.ensures.seats c.put.ensures.changed c.put.ensures.others)

pub invariant_of-self : goal.invariant_of-self
invariant_of-self c = settled c.put.new.seats (set c.self.inside.ends.items c.in-Some.seat.list c.unlinked.result) (unlinked c.args.key (lists_in c.self.inside.seats c.self.inside.ends.items)) (stays c)

pub returns-in-Some-clause-lists : goal.returns-in-Some-clause-lists
returns-in-Some-clause-lists c =
    lists_in-is c.put.new.seats (set c.self.inside.ends.items c.in-Some.seat.list c.unlinked.result) (unlinked c.args.key (lists_in c.self.inside.seats c.self.inside.ends.items)) (stays c)
    ∙ ap (λ (v : Sequences). unlinked c.args.key v.lists) c.self.view_is

same_live : (c : goal.After-self-1) → live_in c.put.new.seats ≡ live_in c.self.inside.seats
same_live c =
    let had = found_seat (get c.self.inside.seats c.args.key) c.in-Some.seat (sym c.in-Some.ensures) in
    live-unlinked c.self.inside.seats c.set_next.new.seats c.set_previous.new.seats c.put.new.seats c.args.key c.in-Some.seat c.in-Some.seat.previous c.in-Some.seat.next had c.set_next.ensures.seats c.set_previous.ensures.seats c.put.ensures.changed c.put.ensures.others

pub returns-in-Some-clause-live : goal.returns-in-Some-clause-live
returns-in-Some-clause-live c = same_live c ∙ ap (λ (v : Sequences). v.live) c.self.view_is

pub returns-in-Some-clause-lives : goal.returns-in-Some-clause-lives
returns-in-Some-clause-lives c =
    lives c.put.new.seats c.args.key ∙ ap is_some c.put.ensures.changed

nowhere : {P : Type 0} → (c : goal.In_default) → P
nowhere c =
    let lists = lists_in c.self.inside.seats c.self.inside.ends.items in
    let linked : is_in_list lists c.args.key ≡ true = ap (λ (v : Sequences). is_in_list v.lists c.args.key) c.self.view_is ∙ c.requires in
    let found = some_list lists c.args.key linked in
    clash (has_key c.args.key (keys_of lists found.0)) found.1 (unseated_loose (get c.self.inside.seats) c.self.inside.ends.items lists c.self.invariant c.args.key (sym c.in_default.ensures) found.0)

pub returns-in_default-clause-lists : goal.returns-in_default-clause-lists
returns-in_default-clause-lists c = nowhere c

pub returns-in_default-clause-lives : goal.returns-in_default-clause-lives
returns-in_default-clause-lives c = nowhere c
