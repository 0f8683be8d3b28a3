use Rattle.std.proofs.Common.{◌≡◌, is_some, sym, ap, ◌∙◌}
use Rattle.std.proofs.lemmas.List.{take-append-drop}
use Rattle.bmx_mark.specs.Marks.{Marking, is_marked, key_in, key_of}
use Rattle.bmx_mark.proofs.Named.{key_in-lookup, key_in-some, parted}
use Rattle.bmx_mark.proofs.mark.Mark.key.Goals as goal

pub returns-clause-value : goal.returns-clause-value
returns-clause-value c =
    let es = c.self.inside.keys.entries in
    c.copied.ensures ∙ (c.get.ensures.value ∙ key_in-lookup es c.args.name) ∙ ap (λ l. key_in l c.args.name) (sym (take-append-drop c.self.inside.scanned es))
    ∙ ap (λ (m : Marking). key_of m c.args.name) c.self.view_is

pub returns-clause-some : goal.returns-clause-some
returns-clause-some c =
    let es = c.self.inside.keys.entries in
    let same : is_some c.copied.result ≡ is_marked c.args.self.now c.args.name =
    ap is_some (c.copied.ensures ∙ (c.get.ensures.value ∙ key_in-lookup es c.args.name)) ∙ key_in-some es c.args.name
    ∙ sym (parted c.self.inside.scanned es c.args.name) ∙ ap (λ (m : Marking). is_marked m c.args.name) c.self.view_is in
    (λ h. sym same ∙ h, λ h. same ∙ h)
