use Rattle.std.proofs.Common.{◌≡◌, ◌<◌, length, arith, sym, ◌∙◌}
use Rattle.std.specs.Prelude.{slice_get, Some}
use Rattle.std.proofs.lemmas.Grind.{common_steps}
use Rattle.bmx_token.proofs.NodeLists.{nodes_without-remove, nodes_without-none, slice_get-remove_before, length-remove}
use Rattle.bmx_token.proofs.nodes.leave.Goals as goal

pub loop-place-preserved-then-eq : goal.loop-place-preserved-then-eq
loop-place-preserved-then-eq c =
    let same : c.at.result.now ≡ c.args.node = grind (arith, common_steps) in
    let here : slice_get c.loop-place.nodes c.loop-place.place ≡ Some c.args.node = rw (← same) c.at.ensures in
    let inside : c.loop-place.place < length c.loop-place.nodes = omega arith in
    rw c.remove.ensures.items record {
      same = nodes_without-remove _ _ _ here ∙ c.loop-place.invariant.same;
      within = omega (arith, length-remove c.loop-place.nodes c.loop-place.place inside);
      passed = λ k h. rw (slice_get-remove_before c.loop-place.nodes c.loop-place.place k h) (c.loop-place.invariant.passed k h);
    }

pub returns : goal.returns
returns c =
    sym (nodes_without-none c.args.node c.loop-place.nodes (λ k h. c.loop-place.invariant.passed k (omega arith)))
    ∙ c.loop-place.invariant.same
