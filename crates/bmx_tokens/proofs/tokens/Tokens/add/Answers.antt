use Rattle.std.proofs.Common.{Some}
use Rattle.bmx_tokens.proofs.Map.{part_in-update}
use Rattle.bmx_tokens.proofs.Index.{listed_after, follows-first}
use Rattle.bmx_tokens.proofs.tokens.Tokens.add.Goals as goal

pub invariant_of-self : goal.invariant_of-self
invariant_of-self c =
    let ns = c.self.inside.servable.names in
    listed_after c.self.inside.me c.self.inside.parts.entries c.insert.new.self.entries ns ns c.args.name c.args.part c.self.invariant
    (part_in-update c.self.inside.parts.entries c.insert.new.self.entries c.args.name (Some c.args.part) c.in-Ok.ensures.updates.0)
    (follows-first c.self.inside.me c.self.inside.parts.entries ns c.args.name c.args.part c.self.invariant (rw (← c.self.view_is) at c.requires.none) c.requires.idle)

pub returns-clause-part : goal.returns-clause-part
returns-clause-part c = rw (← c.self.view_is) (part_in-update c.self.inside.parts.entries c.insert.new.self.entries c.args.name (Some c.args.part) c.in-Ok.ensures.updates.0)
