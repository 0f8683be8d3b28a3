use Rattle.std.proofs.Common.{ℕ, sym, subst, ◌∙◌}
use Rattle.bmx_token.specs.declared.parts.Part.{Part}
use Rattle.bmx_token.specs.Tokens.{owner_part}
use Rattle.bmx_memory.specs.Shown.{Shown, Fits, shown}
use Rattle.bmx_memory.proofs.Fitting.{first_fits}
use Rattle.bmx_memory.proofs.tests.hear.Goals as goal

pub learn-requires-clause-fits : goal.learn-requires-clause-fits
learn-requires-clause-fits c =
    let parts : ℕ → Part = λ name. owner_part in
    subst (λ (m : Shown). Fits m c.args.info.now) (sym c.reserve.ensures.shown)
    (first_fits (shown c.args.memory.now) 0 parts c.args.info.now _ (sym (c.clashes-clashes.ensures 0 parts) ∙ c.if-clashes.false))
