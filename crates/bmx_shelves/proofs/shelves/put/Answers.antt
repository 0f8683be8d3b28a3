use Rattle.std.proofs.Common.{sym}
use Rattle.std.proofs.lemmas.Bool.{ne_eqb}
use Rattle.bmx_shelves.proofs.shelves.put.Goals as goal

pub returns-clause-others : goal.returns-clause-others
returns-clause-others g c = λ q ne. c.in-Ok.ensures.updates.2 q (ne_eqb c.args.key q (λ e. ne (sym e)))
