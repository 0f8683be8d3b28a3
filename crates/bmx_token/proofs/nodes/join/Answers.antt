use Rattle.std.proofs.Common.{◌≡◌, ◌≢◌, arith, sym}
use Rattle.std.specs.Prelude.{slice_get, Some}
use Rattle.std.proofs.lemmas.Grind.{common_steps}
use Rattle.std.proofs.lemmas.Option.{slice_get_past}
use Rattle.bmx_token.proofs.NodeLists.{at_its_place, not_at_its_place}
use Rattle.bmx_token.proofs.nodes.join.Goals as goal
use Rattle.bmx_token.proofs.nodes.join.Goals.{else-place-len-via-then-place-len+else-eq, else-place-len-via-else-place-len}

pub returns-then-eq-clause-ok : goal.returns-then-eq-clause-ok
returns-then-eq-clause-ok c =
    let same : c.at.result.now ≡ c.args.node = grind (arith, common_steps) in
    sym (at_its_place _ _ _ _ c.place_of-place.ensures c.at.ensures same)

pub returns-clause-ok : goal.returns-clause-ok
returns-clause-ok c =
    let apart : slice_get c.args.nodes.now c.place_of-place.result ≢ Some c.args.node =
    elim c.else-place-len.branch [
      | else-place-len-via-then-place-len+else-eq w ↦ λ e. let at = w.at.ensures in grind (arith, common_steps)
      | else-place-len-via-else-place-len w ↦ λ e. let past = slice_get_past c.args.nodes.now c.place_of-place.result (omega arith) in grind (arith, common_steps)
    ] in
    rw (not_at_its_place _ _ _ c.place_of-place.ensures apart) c.insert.ensures.ok
