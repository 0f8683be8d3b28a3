-- A collector's step makes one outcome and one node; one that is refused leaves the node as it was.
use Rattle.std.proofs.Common.{◌≡◌, ℕ, Bool, true, false, cond, refl, ap, sym, ◌∙◌, subst}
use Rattle.bmx_types.specs.declared.commands.Refusal.TheVariants as refusal
use Rattle.bmx_protocol.specs.Nodes.{Setting}
use Rattle.bmx_collection.specs.ToSpaces.{is_too_large}
use Rattle.bmx_collection.specs.Tables.{is_stray_table}
use Rattle.bmx_collection.specs.Steps.{LinkedNode, CollectorInput, Collect, Sweep, MakeTable, TakeTable, CollectorTold, CollectorReaction, CollectorAnswer, Refused, Stray, CollectorDone, unchanged, collector_rule, outcome_of, counted}
use Rattle.bmx_collection.specs.Laws.{CollectorStepIsDetermined, IsCollectorRefusal, CollectorRefusalKeeps}
use Rattle.bmx_collection.proofs.Told.{one_told}

pub collector_step_is_determined : CollectorStepIsDetermined
collector_step_is_determined st me stamp i n n' m' c d a b =
    let told : a.told ≡ b.told = one_told me n i a.told b.told a.is_told b.is_told in (
      a.outcome ∙ ap (λ (t : CollectorTold). outcome_of (collector_rule st me n t stamp i)) told ∙ sym b.outcome,
      a.node ∙ ap (λ (t : CollectorTold). counted (collector_rule st me n t stamp i).node) told ∙ sym b.node,
    )

-- where the answer is a refusal nothing else is made
abbrev pub Keeps : LinkedNode → CollectorReaction → Type 0
Keeps n r = IsCollectorRefusal r.answer → r ≡ unchanged n r.answer

either_keeps : (n : LinkedNode) (b : Bool) (a : CollectorAnswer) (r : CollectorReaction) → Keeps n r → Keeps n (cond b (unchanged n a) r)
either_keeps n true a r keeps refuses = refl
either_keeps n false a r keeps refuses = keeps refuses

rule_keeps : (st : Setting) (me : ℕ) (n : LinkedNode) (t : CollectorTold) (stamp : ℕ) (i : CollectorInput) → Keeps n (collector_rule st me n t stamp i)
rule_keeps st me n t stamp (Collect bunch) refuses = either_keeps n (is_too_large st.limit n.state n.places t.owned) (Refused refusal.Full) _ (λ r. absurd r) refuses
rule_keeps st me n t stamp Sweep refuses = absurd refuses
rule_keeps st me n t stamp (MakeTable bunch to) refuses = absurd refuses
rule_keeps st me n t stamp (TakeTable table) refuses = either_keeps n (is_stray_table st me table) Stray _ (λ r. absurd r) refuses

pub collector_refusal_keeps : CollectorRefusalKeeps
collector_refusal_keeps st me stamp i n n' d step refuses =
    let r : CollectorReaction = collector_rule st me n step.told stamp i in
    let same : r ≡ unchanged n r.answer =
    rule_keeps st me n step.told stamp i (subst IsCollectorRefusal (ap (λ (x : CollectorDone). x.answer) step.outcome) refuses) in (
      ap (λ (x : CollectorDone). x.table) step.outcome ∙ ap (λ (x : CollectorReaction). x.table) same,
      step.node ∙ ap (λ (x : CollectorReaction). counted x.node) same,
    )
