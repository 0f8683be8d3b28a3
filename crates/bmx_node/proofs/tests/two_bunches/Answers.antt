use Rattle.std.proofs.Common.{◌≡◌, refl, sym, subst}
use Rattle.bmx_types.specs.Openings.{IsOpening}
use Rattle.bmx_node.proofs.Anchors.{two, opens}
use Rattle.bmx_node.proofs.tests.two_bunches.Goals as goal

pub invariant_of-result : goal.invariant_of-result
invariant_of-result c =
    let list : c.push-2.new.self ≡ two = rw c.in_ok-push-2.ensures.ok (rw c.in_ok-push.ensures.ok (rw c.new-births.ensures (rw c.in_ok-anchor_born.ensures (rw c.in_ok-anchor_born-2.ensures refl)))) in
    record { opened = subst (IsOpening 2 1) (sym list) opens }
