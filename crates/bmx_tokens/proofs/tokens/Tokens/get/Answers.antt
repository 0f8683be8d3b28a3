use Rattle.bmx_tokens.proofs.Map.{found, not_found}
use Rattle.bmx_tokens.proofs.tokens.Tokens.get.Goals as goal

pub returns-clause-some : goal.returns-clause-some
returns-clause-some c = rw (← c.self.view_is) (found c.self.inside.parts.entries c.args.name c.get.result c.get.ensures.value)

pub returns-clause-none : goal.returns-clause-none
returns-clause-none c = rw (← c.self.view_is) (not_found c.self.inside.parts.entries c.args.name c.get.result c.get.ensures.value)
