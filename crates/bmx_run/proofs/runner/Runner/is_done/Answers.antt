use Rattle.std.proofs.Common.{inl, inr, sym, ◌∙◌}
use Rattle.std.proofs.lemmas.Bool.{false≢true, ltb-true, ltb-false}
use Rattle.bmx_run.specs.Inside.Phases.{AreCompleted}
use Rattle.bmx_run.proofs.Phasing.{done_told}
use Rattle.bmx_run.proofs.runner.Runner.is_done.Goals.{then-quiet, else-quiet}
use Rattle.bmx_run.proofs.runner.Runner.is_done.Goals as goal

pub returns-after-quiet : goal.returns-after-quiet
returns-after-quiet c = λ p at quiet counts.
    let count = c.args.enabled in
    let all : AreCompleted p = (c.is_completed.ensures p at).0 c.if-is_completed.true in
    let busy = c.if-quiet.result in
    elim c.if-quiet.branch [
      | then-quiet w ↦ done_told p c.args.self.now count at counts all busy
          (λ h. inr (ltb-false 0 count (sym w.result-is ∙ h))) (λ h. (quiet ∙ w.if-quiet.true, ltb-true 0 count (sym w.result-is ∙ h)))
      | else-quiet w ↦ done_told p c.args.self.now count at counts all busy
          (λ h. inl (quiet ∙ w.if-quiet.false)) (λ h. absurd (false≢true (sym w.if-quiet.false ∙ sym w.result-is ∙ h)))
    ]
