use Rattle.std.proofs.Common.{sym, ap, subst, ◌∙◌, List, [], ◌∷◌, ◌++◌}
use Rattle.bmx_types.specs.Openings.{IsOpening}
use Rattle.bmx_types.specs.declared.openings.Birth.{Birth}
use Rattle.bmx_embedding.proofs.Opened.{opens}
use Rattle.bmx_embedding.proofs.opening.opening.Goals as goal

pub invariant_of-result : goal.invariant_of-result
invariant_of-result c = record {
  opened =
      subst (λ (births : List Birth). IsOpening 2 4 births)
      (sym (c.in_ok-push.ensures.ok ∙ ap (λ (births : List Birth). births ++ c.in_ok-anchor.field-0 ∷ []) c.new-births.ensures ∙ ap (λ (b : Birth). b ∷ []) c.in_ok-anchor.ensures))
      opens;
}
