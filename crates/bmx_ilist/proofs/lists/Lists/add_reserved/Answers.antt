use Rattle.std.proofs.Common.{◌≡◌, Some, None, is_some, sym, ap, ◌∙◌}
use Rattle.std.specs.FinSet as set
use Rattle.slab.specs.Slab.{get}
use Rattle.bmx_ilist.specs.Sequences.{Sequences, is_in_list}
use Rattle.bmx_ilist.specs.Inside.Links.{Means, lists_in, seat_found}
use Rattle.bmx_ilist.proofs.Links.{lists_in-is}
use Rattle.bmx_ilist.proofs.Live.{live_in, lives, live-insert}
use Rattle.bmx_ilist.proofs.Steps.{settled, unseated_nowhere, Means-unseated}
use Rattle.bmx_ilist.proofs.lists.Lists.add_reserved.Goals as goal

stays : (c : goal.After-from_index) → Means (get c.insert_reserved.new.self) c.self.inside.ends.items (lists_in c.self.inside.seats c.self.inside.ends.items)
stays c =
    Means-unseated c.self.inside.seats c.insert_reserved.new.self c.self.inside.ends.items (lists_in c.self.inside.seats c.self.inside.ends.items) c.insert_reserved.result (Some None) c.self.invariant
    (λ s e. absurd (let both : None ≡ Some (Some s) = sym c.insert_reserved.ensures.was_vacant ∙ e in cc))
    (λ s e. absurd (cc))
    c.insert_reserved.ensures.updates

pub invariant_of-self : goal.invariant_of-self
invariant_of-self c = settled c.insert_reserved.new.self c.self.inside.ends.items (lists_in c.self.inside.seats c.self.inside.ends.items) (stays c)

pub returns-clause-lists : goal.returns-clause-lists
returns-clause-lists c =
    lists_in-is c.insert_reserved.new.self c.self.inside.ends.items (lists_in c.self.inside.seats c.self.inside.ends.items) (stays c)
    ∙ ap (λ (v : Sequences). v.lists) c.self.view_is

pub returns-clause-loose : goal.returns-clause-loose
returns-clause-loose c =
    let lists = lists_in c.self.inside.seats c.self.inside.ends.items in
    let same_lists : lists_in c.insert_reserved.new.self c.self.inside.ends.items ≡ lists = lists_in-is c.insert_reserved.new.self c.self.inside.ends.items lists (stays c) in
    ap (is_in_list (lists_in c.insert_reserved.new.self c.self.inside.ends.items)) c.from_index.ensures
    ∙ ap (λ l. is_in_list l c.insert_reserved.result) same_lists
    ∙ unseated_nowhere (get c.self.inside.seats) c.self.inside.ends.items lists c.self.invariant c.insert_reserved.result (ap seat_found c.insert_reserved.ensures.was_vacant)

pub returns-clause-new : goal.returns-clause-new
returns-clause-new c =
    ap (λ (v : Sequences). set.contains v.live c.from_index.result) (sym c.self.view_is)
    ∙ ap (set.contains (live_in c.self.inside.seats)) c.from_index.ensures
    ∙ lives c.self.inside.seats c.insert_reserved.result ∙ ap is_some c.insert_reserved.ensures.was_vacant

pub returns-clause-live : goal.returns-clause-live
returns-clause-live c =
    live-insert c.self.inside.seats c.insert_reserved.new.self c.insert_reserved.result None c.insert_reserved.ensures.updates
    ∙ ap (λ (v : Sequences). set.insert v.live c.insert_reserved.result) c.self.view_is
    ∙ ap (set.insert c.args.self.now.live) (sym c.from_index.ensures)
