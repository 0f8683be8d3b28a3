use Rattle.std.proofs.Common.{[], replicate, refl, rules}
use Rattle.slab.specs.Slab.{get}
use Rattle.bmx_ilist.specs.Inside.Links.{Means, ends_of}
use Rattle.bmx_ilist.proofs.Links.{lists_in-is}
use Rattle.bmx_ilist.proofs.Steps.{settled, new_step}
use Rattle.bmx_ilist.proofs.lists.Lists.new.Goals as goal

none : (c : goal.In_ok-from_elem) → Means (get c.new.result) c.in_ok-from_elem.field-0.items (replicate c.args.lists [])
none c =
    new_step c.new.result c.in_ok-from_elem.field-0.items c.args.lists (ends_of []) c.new.ensures.empty refl
    (c.in_ok-from_elem.ensures.items_if_clones_equal (λ y is. search rules))

pub invariant_of-result : goal.invariant_of-result
invariant_of-result c = settled c.new.result c.in_ok-from_elem.field-0.items (replicate c.args.lists []) (none c)

pub returns-clause-lists : goal.returns-clause-lists
returns-clause-lists c = lists_in-is c.new.result c.in_ok-from_elem.field-0.items (replicate c.args.lists []) (none c)
