use Rattle.std.proofs.Common.{◌≡◌, ap, sym, ◌∙◌, refl}
use Rattle.bmx_memory.specs.Shown.{shown}
use Rattle.bmx_tokens.specs.Tables.{part_of}
use Rattle.bmx_node.proofs.Viewing.{one_more, none_more}
use Rattle.bmx_node.proofs.view.entries_of.Goals.{in-Some+in_ok-entry+in_ok-push, in_default}
use Rattle.bmx_node.proofs.view.entries_of.Goals as goal

pub loop-name-preserved : goal.loop-name-preserved
loop-name-preserved c =
    let object = (shown c.args.memory.now).object in
    let part = part_of c.args.tokens.now in
    elim c.match-get.branch [
      | in-Some+in_ok-entry+in_ok-push w ↦ one_more object part c.args.names.now c.loop-name.name-index c.name-item.result c.loop-name-test.true c.name-item.is c.loop-name.entries c.loop-name.invariant
          _ _ _ w.in-Some.ensures.some w.in_ok-entry.ensures (w.entries-is ∙ w.in_ok-push.ensures.ok)
      | in_default w ↦ none_more object part c.args.names.now c.loop-name.name-index c.name-item.result c.loop-name-test.true c.name-item.is c.loop-name.entries c.loop-name.invariant
          _ w.in_default.ensures.none w.entries-is
    ]
