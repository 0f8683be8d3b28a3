use Rattle.std.proofs.Common.{sym, ap, ◌∙◌}
use Rattle.bmx_mark.specs.Marks.{Marking, is_marked}
use Rattle.bmx_mark.proofs.Named.{found, parted}
use Rattle.bmx_mark.proofs.mark.Mark.is_kept.Goals as goal

pub returns : goal.returns
returns c =
    let es = c.self.inside.keys.entries in
    c.contains_key.ensures ∙ found es c.args.name ∙ sym (parted c.self.inside.scanned es c.args.name) ∙ ap (λ (m : Marking). is_marked m c.args.name) c.self.view_is
