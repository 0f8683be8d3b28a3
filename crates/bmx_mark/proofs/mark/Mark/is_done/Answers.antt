use Rattle.std.proofs.Common.{◌≡◌, None, sym, ap, ◌∙◌, rules}
use Rattle.bmx_mark.specs.Marks.{Marking}
use Rattle.bmx_mark.proofs.Kept.{none_grey, grey_none}
use Rattle.bmx_mark.proofs.Reaching.{IsBetween-done}
use Rattle.bmx_mark.proofs.mark.Mark.is_done.Goals as goal

pub returns-clause-done : goal.returns-clause-done
returns-clause-done c =
    let m = c.self.inside in (
      λ h.
          let none : c.first.result ≡ None = search rules in
          sym (ap (λ (v : Marking). v.grey) c.self.view_is) ∙ none_grey m.lists m.keys.entries _ m.scanned m.spare c.self.invariant (sym c.first.ensures.value ∙ none),
      λ h.
          let none : c.first.result ≡ None = c.first.ensures.value ∙ grey_none m.lists m.keys.entries _ m.scanned m.spare c.self.invariant (ap (λ (v : Marking). v.grey) c.self.view_is ∙ h) in
          search rules,
    )

pub returns-clause-least : goal.returns-clause-least
returns-clause-least c = λ h roots target b x. IsBetween-done roots target c.args.self.now ((returns-clause-done c).0 h) b x
