use Rattle.std.proofs.Common.{◌≡◌, true, false, is_some, sym, ap, subst, ◌∙◌}
use Rattle.bmx_replica.specs.Replicas.{StandsAt}
use Rattle.bmx_replica.specs.declared.objects.Object.{Object}
use Rattle.bmx_memory.specs.Contents.{Contents}
use Rattle.bmx_memory.specs.Shown.{shown, has_copy}
use Rattle.bmx_memory.specs.contracts.memory.Memory.{the_view}
use Rattle.bmx_memory.proofs.Shows.{copy_shown, of_some, of_none, if_some}
use Rattle.bmx_memory.proofs.memory.Memory.copied_object.Goals as goal

pub returns-clause-some : goal.returns-clause-some
returns-clause-some c =
    let m : Contents = the_view c.self.inside in
    of_some c.copied.result _ (λ o is. (
      subst (λ (n : Contents). StandsAt n.replica o) c.self.view_is (if_some c.copied.result (StandsAt m.replica) o is c.copied.ensures.stands),
      if_some c.copied.result (λ (x : Object). x.header.name ≡ c.args.name) o is c.copied.ensures.named,
      subst (λ (n : Contents). has_copy (shown n) c.args.name ≡ true) c.self.view_is (copy_shown m c.args.name ∙ sym c.copied.ensures.some ∙ ap is_some is),
    ))

pub returns-clause-none : goal.returns-clause-none
returns-clause-none c =
    let m : Contents = the_view c.self.inside in
    of_none c.copied.result (λ none.
    subst (λ (n : Contents). has_copy (shown n) c.args.name ≡ false) c.self.view_is
    (copy_shown m c.args.name ∙ sym c.copied.ensures.some ∙ none))
