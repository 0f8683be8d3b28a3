use Rattle.std.proofs.Common.{◌≡◌, true, false, None, is_some, sym, ap, ◌∙◌}
use Rattle.std.specs.FinSet as set
use Rattle.slab.specs.Slab.{get}
use Rattle.bmx_ilist.specs.Sequences.{Sequences, is_in_list}
use Rattle.bmx_ilist.specs.Inside.Links.{Means, lists_in}
use Rattle.bmx_ilist.proofs.Links.{lists_in-is}
use Rattle.bmx_ilist.proofs.Live.{lives, live-remove}
use Rattle.bmx_ilist.proofs.Steps.{settled, loose_unseated, Means-unseated}
use Rattle.bmx_ilist.proofs.lists.Lists.remove.Goals as goal

lives_in : (c : goal.After-index) → is_some (get c.self.inside.seats c.args.key) ≡ true
lives_in c = sym (lives c.self.inside.seats c.args.key) ∙ ap (λ (v : Sequences). set.contains v.live c.args.key) c.self.view_is ∙ c.requires.live

pub remove-seat-requires : goal.remove-seat-requires
remove-seat-requires c = ap (λ k. is_some (get c.self.inside.seats k)) c.index.ensures ∙ lives_in c

stays : (c : goal.After-remove-seat) → Means (get c.remove-seat.new.self) c.self.inside.ends.items (lists_in c.self.inside.seats c.self.inside.ends.items)
stays c =
    let lists = lists_in c.self.inside.seats c.self.inside.ends.items in
    let loose : is_in_list lists c.index.result ≡ false = ap (is_in_list lists) c.index.ensures ∙ ap (λ (v : Sequences). is_in_list v.lists c.args.key) c.self.view_is ∙ c.requires.loose in
    Means-unseated c.self.inside.seats c.remove-seat.new.self c.self.inside.ends.items lists c.index.result None c.self.invariant
    (loose_unseated (get c.self.inside.seats) c.self.inside.ends.items lists c.self.invariant c.index.result loose)
    (λ s e. absurd (cc))
    c.remove-seat.ensures.updates

pub invariant_of-self : goal.invariant_of-self
invariant_of-self c = settled c.remove-seat.new.self c.self.inside.ends.items (lists_in c.self.inside.seats c.self.inside.ends.items) (stays c)

pub returns-clause-lists : goal.returns-clause-lists
returns-clause-lists c =
    lists_in-is c.remove-seat.new.self c.self.inside.ends.items (lists_in c.self.inside.seats c.self.inside.ends.items) (stays c)
    ∙ ap (λ (v : Sequences). v.lists) c.self.view_is

pub returns-clause-live : goal.returns-clause-live
returns-clause-live c =
    live-remove c.self.inside.seats c.remove-seat.new.self c.index.result c.remove-seat.ensures.updates
    ∙ ap (λ (v : Sequences). set.remove v.live c.index.result) c.self.view_is
    ∙ ap (set.remove c.args.self.now.live) c.index.ensures
