use Rattle.std.proofs.Common.{◌≡◌, false, subst, ◌∙◌}
use Rattle.std.specs.Option.{option_map_or}
use Rattle.bmx_token.specs.declared.parts.Part.{Part}
use Rattle.bmx_tokens.specs.Tables.{part_of}
use Rattle.bmx_node.specs.Stamped.{Stamped}
use Rattle.bmx_node.proofs.Telling.{token_known_at}
use Rattle.bmx_node.proofs.node.Node.is_ready.Goals as goal

pub returns-clause-known : goal.returns-clause-known
returns-clause-known c =
    subst (λ (n : Stamped). c.is_ready.result ≡ option_map_or (λ (p : Part). p.ready) (part_of n.holdings.tokens c.args.name) false) c.self.view_is c.is_ready.ensures
    ∙ token_known_at (record { holdings = c.self.inside.holdings; stamp = c.self.inside.stamp }) c.args.self.now c.self.view_is c.self.invariant.0 (λ (p : Part). p.ready) c.args.name
