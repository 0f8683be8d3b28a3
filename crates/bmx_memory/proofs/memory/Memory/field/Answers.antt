use Rattle.std.proofs.Common.{sym, ap, subst, ◌∙◌}
use Rattle.bmx_memory.specs.Contents.{Contents}
use Rattle.bmx_memory.specs.Shown.{shown, HasEntry, value_of}
use Rattle.bmx_memory.specs.contracts.memory.Memory.{the_view}
use Rattle.bmx_memory.proofs.Reached.{field_target}
use Rattle.bmx_memory.proofs.Shows.{value_shown, entry_shown, of_some}
use Rattle.bmx_memory.proofs.memory.Memory.field.Goals as goal

pub returns-clause-value : goal.returns-clause-value
returns-clause-value c =
    c.field.ensures ∙ sym (value_shown (the_view c.self.inside) c.args.name c.args.i) ∙ ap (λ (m : Contents). value_of (shown m) c.args.name c.args.i) c.self.view_is

pub returns-clause-known : goal.returns-clause-known
returns-clause-known c =
    let m = the_view c.self.inside in
    let kept = c.self.invariant.0 in
    of_some c.field.result (HasEntry (shown c.args.self.now)) (λ v is.
    subst (λ (n : Contents). HasEntry (shown n) v) c.self.view_is
    (entry_shown m v (field_target m.replica kept.sound.replica kept.standing c.args.name c.args.i v (sym c.field.ensures ∙ is))))
