use Rattle.std.proofs.Common.{◌≡◌, Some, None, is_some, sym, ap, ◌∙◌}
use Rattle.std.specs.FinSet as set
use Rattle.slab.specs.Slab.{get}
use Rattle.bmx_ilist.specs.Sequences.{Sequences, is_in_list}
use Rattle.bmx_ilist.specs.Inside.Links.{Means, lists_in, seat_found}
use Rattle.bmx_ilist.proofs.Links.{lists_in-is}
use Rattle.bmx_ilist.proofs.Live.{live_in, lives, live-insert}
use Rattle.bmx_ilist.proofs.Steps.{settled, unseated_nowhere, Means-unseated}
use Rattle.bmx_ilist.proofs.lists.Lists.add.Goals as goal

stays : (c : goal.After-from_index) → Means (get c.insert.new.self) c.self.inside.ends.items (lists_in c.self.inside.seats c.self.inside.ends.items)
stays c =
    Means-unseated c.self.inside.seats c.insert.new.self c.self.inside.ends.items (lists_in c.self.inside.seats c.self.inside.ends.items) c.in_ok-insert.field-0 (Some None) c.self.invariant
    (λ s e. absurd (let both : None ≡ Some (Some s) = sym c.in_ok-insert.ensures.was_vacant ∙ e in cc))
    (λ s e. absurd (cc))
    c.in_ok-insert.ensures.updates

pub invariant_of-self-2 : goal.invariant_of-self-2
invariant_of-self-2 c = settled c.insert.new.self c.self.inside.ends.items (lists_in c.self.inside.seats c.self.inside.ends.items) (stays c)

pub returns-clause-lists : goal.returns-clause-lists
returns-clause-lists c =
    lists_in-is c.insert.new.self c.self.inside.ends.items (lists_in c.self.inside.seats c.self.inside.ends.items) (stays c)
    ∙ ap (λ (v : Sequences). v.lists) c.self.view_is

pub returns-clause-loose : goal.returns-clause-loose
returns-clause-loose c =
    let lists = lists_in c.self.inside.seats c.self.inside.ends.items in
    let same_lists : lists_in c.insert.new.self c.self.inside.ends.items ≡ lists = lists_in-is c.insert.new.self c.self.inside.ends.items lists (stays c) in
    ap (is_in_list (lists_in c.insert.new.self c.self.inside.ends.items)) c.from_index.ensures
    ∙ ap (λ l. is_in_list l c.in_ok-insert.field-0) same_lists
    ∙ unseated_nowhere (get c.self.inside.seats) c.self.inside.ends.items lists c.self.invariant c.in_ok-insert.field-0 (ap seat_found c.in_ok-insert.ensures.was_vacant)

pub returns-clause-new : goal.returns-clause-new
returns-clause-new c =
    ap (λ (v : Sequences). set.contains v.live c.from_index.result) (sym c.self.view_is)
    ∙ ap (set.contains (live_in c.self.inside.seats)) c.from_index.ensures
    ∙ lives c.self.inside.seats c.in_ok-insert.field-0 ∙ ap is_some c.in_ok-insert.ensures.was_vacant

pub returns-clause-live : goal.returns-clause-live
returns-clause-live c =
    live-insert c.self.inside.seats c.insert.new.self c.in_ok-insert.field-0 None c.in_ok-insert.ensures.updates
    ∙ ap (λ (v : Sequences). set.insert v.live c.in_ok-insert.field-0) c.self.view_is
    ∙ ap (set.insert c.args.self.now.live) (sym c.from_index.ensures)
