use Rattle.std.proofs.Common.{◌≡◌, ℕ, true, sym, ap, subst, ◌∙◌, IsSome}
use Rattle.std.specs.Option.{option_map}
use Rattle.bmx_replica.specs.Replicas.{copy_of, field_of}
use Rattle.bmx_memory.specs.Contents.{Contents, value_at}
use Rattle.bmx_memory.specs.Shown.{shown, HasEntry, has_copy, value_of}
use Rattle.bmx_memory.specs.contracts.memory.Memory.{the_view}
use Rattle.bmx_memory.proofs.Reached.{field_target}
use Rattle.bmx_memory.proofs.Shows.{copy_shown, value_shown, entry_shown, of_some}
use Rattle.bmx_memory.proofs.memory.Memory.word_of.Goals as goal

pub returns-clause-value : goal.returns-clause-value
returns-clause-value c =
    let m : Contents = the_view c.self.inside in
    let name : ℕ = c.args.object.now.header.name in
    let copy : IsSome (copy_of m.replica name) = sym (copy_shown m name) ∙ subst (λ (n : Contents). has_copy (shown n) name ≡ true) (sym c.self.view_is) c.requires.copy in
    let V : Contents → Type 0 = λ n. option_map (value_at n.replica) c.field_word.result ≡ value_of (shown n) name c.args.i in
    subst V c.self.view_is (sym (c.field_word.ensures.value copy) ∙ sym (value_shown m name c.args.i))

pub returns-clause-known : goal.returns-clause-known
returns-clause-known c =
    let m : Contents = the_view c.self.inside in
    let kept = c.self.invariant.0 in
    let name : ℕ = c.args.object.now.header.name in
    let copy : IsSome (copy_of m.replica name) = sym (copy_shown m name) ∙ subst (λ (n : Contents). has_copy (shown n) name ≡ true) (sym c.self.view_is) c.requires.copy in
    let found : field_of m.replica name c.args.i ≡ option_map (value_at m.replica) c.field_word.result = c.field_word.ensures.value copy in
    of_some c.field_word.result _ (λ w is.
    subst (λ (n : Contents). HasEntry (shown n) (value_at n.replica w)) c.self.view_is
    (entry_shown m (value_at m.replica w) (field_target m.replica kept.sound.replica kept.standing name c.args.i (value_at m.replica w) (found ∙ ap (option_map (value_at m.replica)) is))))
