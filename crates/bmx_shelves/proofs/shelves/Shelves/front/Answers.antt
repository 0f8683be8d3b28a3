use Rattle.std.proofs.Common.{◌≡◌, Some, None, sym, ap, ◌∙◌}
use Rattle.std.specs.Option.{option_copied}
use Rattle.bmx_shelves.specs.Inside.Keyed.{found}
use Rattle.bmx_shelves.proofs.Calls.{within, first_item, front_is}
use Rattle.bmx_shelves.proofs.shelves.Shelves.front.Goals as goal

pub unreachable-requires : goal.unreachable-requires
unreachable-requires g c =
    let has = found c.self.inside.items.entries in
    let lists = c.self.inside.lists.lists in
    let count = c.self.inside.count in
    let low = within has lists count c.args.shelf c.self.invariant (rw (← c.self.view_is) at c.requires) in
    let item = first_item has lists count c.args.shelf c.in_ok-key.key c.self.invariant low (sym c.in_ok-key.ensures.value) in
    let none : has c.in_ok-key.key ≡ None = sym c.get.ensures.value ∙ ap option_copied c.in_default.is in
    let both : Some (Some item.0) ≡ None = sym item.1 ∙ none in
    cc

pub returns : goal.returns
returns g c =
    let has = found c.self.inside.items.entries in
    rw (← c.self.view_is) (front_is has c.self.inside.lists.lists c.self.inside.count c.args.shelf c.in_ok-key.key c.in-Some.item.now c.self.invariant (rw (← c.self.view_is) at c.requires) (sym c.in_ok-key.ensures.value) c.in-Some.ensures.value)
