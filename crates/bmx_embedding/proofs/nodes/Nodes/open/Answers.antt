use Rattle.std.proofs.Common.{◌≡◌, ◌<◌, ◌+◌, arith, sym, ap, subst, ◌∙◌, List}
use Rattle.bmx_protocol.specs.Nodes.{Setting}
use Rattle.bmx_protocol.specs.Steps.{first_node}
use Rattle.bmx_node.specs.Stamped.{Stamped}
use Rattle.bmx_node.specs.Seen.{node_of, Suits}
use Rattle.bmx_embedding.specs.Settings.{the_setting}
use Rattle.bmx_embedding.proofs.Opened.{AreFirst, first_more}
use Rattle.bmx_embedding.proofs.nodes.Nodes.open.Goals as goal

pub loop-number-preserved : goal.loop-number-preserved
loop-number-preserved c =
    let n = c.loop-number.number in
    let d = c.in_ok-open.field-0 in
    let below : n < 2 = omega (arith, c.loop-number-test.true) in
    let me : d.holdings.me ≡ n = c.in_ok-open.ensures.me ∙ c.node_no.ensures in
    let suits : Suits the_setting d.holdings = subst (λ (st : Setting). Suits st d.holdings) c.in_ok-opening.ensures c.in_ok-open.ensures.suits in
    let node : node_of d.holdings ≡ first_node the_setting n =
    c.in_ok-open.ensures.node ∙ ap (λ (st : Setting). first_node st c.node_no.result) c.in_ok-opening.ensures ∙ ap (first_node the_setting) c.node_no.ensures in
    subst (λ (nodes : List Stamped). AreFirst (n + 1) nodes) (sym c.in_ok-push.ensures.items)
    (first_more n c.loop-number.nodes.items d below c.loop-number.invariant me suits node c.in_ok-open.ensures.stamp)
