use Rattle.std.proofs.Common.{◌≡◌, ◌++◌, refl, sym, ap, ◌∙◌}
use Rattle.std.specs.Prelude.{None}
use Rattle.std.proofs.lemmas.List.{append-nil}
use Rattle.bmx_world.specs.Texts.{printed_of, line_if}
use Rattle.bmx_world.proofs.Placed.{prints_past, prints_line}
use Rattle.bmx_world.proofs.texts.print_event.Goals as goal

pub returns-in_default-next : goal.returns-in_default-next
returns-in_default-next c counts are =
    prints_past c.args.lines.now counts c.args.event.now c.in-Some.command c.args.text.now c.args.text.now c.next.new.self.of_node
    (c.in_default-next.ensures counts are) (sym c.completed.ensures ∙ c.in-Some.is) refl

pub returns-in-None : goal.returns-in-None
returns-in-None c counts are =
    let text = c.args.text.now in
    let none : printed_of c.in-Some.command c.args.event.now.done.answer ≡ None = sym c.printed.ensures ∙ c.in-None.is in
    prints_line c.args.lines.now counts c.args.event.now c.in-Some.command c.in-Some-next.line text text c.next.new.self.of_node
    (c.in-Some-next.ensures counts are) (sym c.completed.ensures ∙ c.in-Some.is)
    (sym (append-nil text) ∙ ap (λ s. text ++ line_if c.args.event.now.node c.in-Some-next.line s) (sym none))
