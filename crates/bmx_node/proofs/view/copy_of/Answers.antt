use Rattle.std.proofs.Common.{◌≡◌, Bool, true, false, Some, map, ap, sym, ◌∙◌, refl}
use Rattle.bmx_memory.specs.Shown.{shown, lies_in, has_copy}
use Rattle.bmx_protocol.specs.Rules.{heard_field}
use Rattle.bmx_node.proofs.Viewing.{some_state, some_sees, copy_heard}
use Rattle.bmx_node.proofs.view.copy_of.Goals as goal

pub returns : goal.returns
returns c =
    let m = shown c.args.memory.now in
    let there : has_copy m c.args.name ≡ true = sym c.has_copy.ensures ∙ c.if-not-has_copy.false in
    ap Some (c.in_ok-shown_fields.ensures ∙ ap (map heard_field) (c.as_slice.ensures ∙ c.in_ok-fields.ensures (some_state m) (lies_in m.places) (some_sees m))) ∙ copy_heard m c.args.name there
