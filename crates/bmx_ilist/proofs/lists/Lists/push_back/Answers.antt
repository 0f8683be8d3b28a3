use Rattle.std.proofs.Common.{◌≡◌, ◌<◌, true, false, length, set, Some, None, is_some, sym, ap, ◌∙◌, subst}
use Rattle.std.specs.FinSet as set
use Rattle.slab.specs.Slab.{get}
use Rattle.bmx_ilist.specs.Sequences.{Sequences, is_in_list, pushed}
use Rattle.bmx_ilist.specs.Inside.Links.{Means, lists_in}
use Rattle.bmx_ilist.proofs.Links.{lists_in-is}
use Rattle.bmx_ilist.proofs.Live.{lives, live-put, live-next}
use Rattle.bmx_ilist.proofs.Steps.{settled, pushed_step}
use Rattle.bmx_ilist.proofs.lists.Lists.push_back.Goals as goal

pub put-requires : goal.put-requires
put-requires c = sym (lives c.self.inside.seats c.args.key) ∙ ap (λ (v : Sequences). set.contains v.live c.args.key) c.self.view_is ∙ c.requires.live

stays : (c : goal.After-self-1) → Means (get c.set_next.new.seats) (set c.self.inside.ends.items c.args.list c.pushed.result) (pushed c.args.list c.args.key (lists_in c.self.inside.seats c.self.inside.ends.items))
stays c =
    let ends = c.self.inside.ends.items in
    let lists = lists_in c.self.inside.seats ends in
    let within : c.args.list < length lists = subst (λ (v : Sequences). c.args.list < length v.lists) (sym c.self.view_is) c.requires.list in
    let loose : is_in_list lists c.args.key ≡ false = ap (λ (v : Sequences). is_in_list v.lists c.args.key) c.self.view_is ∙ c.requires.loose in
    subst (λ e. Means (get c.set_next.new.seats) (set ends c.args.list e) (pushed c.args.list c.args.key lists)) (sym c.pushed.ensures)
    (pushed_step c.self.inside.seats c.put.new.seats c.set_next.new.seats ends lists c.args.list c.args.key c.index-ends.result.now c.self.invariant within loose c.index-ends.ensures c.put.ensures.changed c.put.ensures.others c.set_next.ensures.seats)

pub invariant_of-self : goal.invariant_of-self
invariant_of-self c = settled c.set_next.new.seats (set c.self.inside.ends.items c.args.list c.pushed.result) (pushed c.args.list c.args.key (lists_in c.self.inside.seats c.self.inside.ends.items)) (stays c)

pub returns-clause-lists : goal.returns-clause-lists
returns-clause-lists c =
    lists_in-is c.set_next.new.seats (set c.self.inside.ends.items c.args.list c.pushed.result) (pushed c.args.list c.args.key (lists_in c.self.inside.seats c.self.inside.ends.items)) (stays c)
    ∙ ap (λ (v : Sequences). pushed c.args.list c.args.key v.lists) c.self.view_is

pub returns-clause-live : goal.returns-clause-live
returns-clause-live c =
    let key_lives : is_some (get c.self.inside.seats c.args.key) ≡ true = sym (lives c.self.inside.seats c.args.key) ∙ ap (λ (v : Sequences). set.contains v.live c.args.key) c.self.view_is ∙ c.requires.live in
    live-next c.put.new.seats c.set_next.new.seats c.index-ends.result.now.last (Some c.args.key) c.set_next.ensures.seats
    ∙ live-put c.self.inside.seats c.put.new.seats c.args.key (Some (record { list = c.args.list; previous = c.index-ends.result.now.last; next = None })) key_lives c.put.ensures.changed c.put.ensures.others
    ∙ ap (λ (v : Sequences). v.live) c.self.view_is
