use Rattle.std.proofs.Common.{◌≡◌, ℕ, true, None, is_some, sym, subst, ◌∙◌}
use Rattle.bmx_replica.specs.Replicas.{copy_of}
use Rattle.bmx_memory.specs.Contents.{Contents}
use Rattle.bmx_memory.specs.Shown.{shown, has_copy, value_of}
use Rattle.bmx_memory.specs.contracts.memory.Memory.{the_view}
use Rattle.bmx_memory.proofs.Shows.{copy_shown, no_field, same_truth}
use Rattle.bmx_memory.proofs.memory.Memory.field_at.Goals as goal

pub returns-then-not-is_copied-clause-value : goal.returns-then-not-is_copied-clause-value
returns-then-not-is_copied-clause-value c =
    let m : Contents = the_view c.self.inside in
    let name : ℕ = c.args.object.now.header.name in
    let same : c.is_copied.result ≡ is_some (copy_of m.replica name) = same_truth c.is_copied.result (is_some (copy_of m.replica name)) c.is_copied.ensures.0 c.is_copied.ensures.1 in
    subst (λ (n : Contents). None ≡ value_of (shown n) name c.args.i) c.self.view_is
    (sym (no_field m name c.args.i (sym same ∙ c.if-not-is_copied.true)))

pub word_of-requires-clause-copy : goal.word_of-requires-clause-copy
word_of-requires-clause-copy c =
    let m : Contents = the_view c.self.inside in
    let name : ℕ = c.args.object.now.header.name in
    let same : c.is_copied.result ≡ is_some (copy_of m.replica name) = same_truth c.is_copied.result (is_some (copy_of m.replica name)) c.is_copied.ensures.0 c.is_copied.ensures.1 in
    subst (λ (n : Contents). has_copy (shown n) name ≡ true) c.self.view_is
    (copy_shown m name ∙ sym same ∙ c.if-not-is_copied.false)
