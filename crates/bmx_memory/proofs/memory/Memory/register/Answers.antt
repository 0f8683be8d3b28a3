use Rattle.std.proofs.Common.{sym, ap, subst, ◌∙◌}
use Rattle.bmx_segment.specs.Headers.{kind_number}
use Rattle.bmx_memory.specs.Contents.{Contents}
use Rattle.bmx_memory.specs.Shown.{shown, HasEntry}
use Rattle.bmx_memory.specs.contracts.memory.Memory.{the_view}
use Rattle.bmx_memory.proofs.Reached.{target_held}
use Rattle.bmx_types.specs.declared.values.Val.TheVariants as val
use Rattle.bmx_replica.proofs.Finding.{entry_there}
use Rattle.bmx_memory.specs.declared.memory.Seen.{Seen}
use Rattle.bmx_memory.specs.Inside.Keeping.{IsSeen}
use Rattle.bmx_memory.proofs.Shows.{register_shown, entry_shown, if_some}
use Rattle.bmx_memory.proofs.memory.Memory.register.Goals as goal

pub returns-clause-value : goal.returns-clause-value
returns-clause-value c =
    c.value.ensures ∙ sym (register_shown (the_view c.self.inside) c.args.register c.at.result c.at.ensures.word) ∙ ap (λ (m : Contents). (shown m).register c.args.register) c.self.view_is

pub returns-clause-known : goal.returns-clause-known
returns-clause-known c =
    let m = the_view c.self.inside in
    let kept = c.self.invariant.0 in
    subst (λ (n : Contents). HasEntry (shown n) c.value.result) c.self.view_is
    (subst (HasEntry (shown m)) (sym c.value.ensures)
    (entry_shown m _ (target_held m.replica kept.sound.replica kept.standing (kind_number c.at.result.kind) c.at.result.word (kept.held c.args.register c.at.result c.at.ensures.word))))

pub returns-then-seen-register-clause-known : goal.returns-then-seen-register-clause-known
returns-then-seen-register-clause-known c =
    let m : Contents = the_view c.self.inside in
    let s : Seen = c.in-Some.seen in
    let seen : IsSeen m s = if_some c.self.inside.seen (IsSeen m) s c.in-Some.is c.self.invariant.1 in
    subst (λ (n : Contents). HasEntry (shown n) (val.Ref s.object.header.name)) c.self.view_is
    (entry_shown m (val.Ref s.object.header.name) (entry_there m.replica s.object c.self.invariant.0.sound.replica seen.stands))
