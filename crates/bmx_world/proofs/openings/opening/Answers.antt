use Rattle.std.proofs.Common.{ℕ, List, arith, subst, sym}
use Rattle.bmx_types.specs.Openings.{IsOpening}
use Rattle.bmx_types.specs.declared.openings.Birth.{Birth}
use Rattle.bmx_world.proofs.Opened.{opens}
use Rattle.bmx_world.proofs.openings.opening.Goals as goal

pub invariant_of-result : goal.invariant_of-result
invariant_of-result c =
    let n : ℕ = c.len-bunches.result in
    record {
      opened = subst (λ (births : List Birth). IsOpening c.nodes.result c.limit.result births) (sym c.in_ok-anchors.ensures)
          (opens c.nodes.result c.limit.result n c.nodes.ensures.range.0 c.nodes.ensures.range.1 c.limit.ensures.range.0 c.limit.ensures.range.1
          (omega (arith, c.len-bunches.ensures, c.bunches.ensures.range.0)) (omega (arith, c.len-bunches.ensures, c.bunches.ensures.range.1)));
    }
