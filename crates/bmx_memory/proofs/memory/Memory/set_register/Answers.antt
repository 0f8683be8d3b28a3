use Rattle.std.proofs.Common.{◌≡◌, List, length, sym, ap, subst, ◌∙◌, arith}
use Rattle.bmx_replica.specs.declared.words.Word.{Word}
use Rattle.bmx_memory.specs.Contents.{Contents}
use Rattle.bmx_memory.specs.Inside.Keeping.{Keeps}
use Rattle.bmx_memory.specs.Shown.{shown, HasEntry, with_register}
use Rattle.bmx_memory.specs.contracts.memory.Memory.{the_view}
use Rattle.bmx_memory.proofs.Kept.{kept_set}
use Rattle.bmx_memory.proofs.Shows.{shown_set, target_shown}
use Rattle.bmx_memory.proofs.memory.Memory.set_register.Goals as goal

pub word-word-requires : goal.word-word-requires
word-word-requires c =
    target_shown (the_view c.self.inside) c.args.value (subst (λ (m : Contents). HasEntry (shown m) c.args.value) (sym c.self.view_is) c.requires.known)

pub invariant_of-self : goal.invariant_of-self
invariant_of-self c =
    let m = the_view c.self.inside in (
      subst (λ (ws : List Word). Keeps (record m { registers = ws })) (sym c.set.ensures) (kept_set m c.args.register c.word-word.result c.self.invariant.0 c.word-word.ensures.field),
      tt,
    )

pub returns-clause-shown : goal.returns-clause-shown
returns-clause-shown c =
    let m = the_view c.self.inside in
    let few : length m.registers ≡ 16 = c.self.invariant.0.few in
    let small = c.requires.register in
    ap (λ (ws : List Word). shown (record m { registers = ws })) c.set.ensures
    ∙ shown_set m c.args.register c.word-word.result c.args.value (omega (arith, few, small)) c.word-word.ensures.holds
    ∙ ap (λ (n : Contents). with_register (shown n) c.args.register c.args.value) c.self.view_is
