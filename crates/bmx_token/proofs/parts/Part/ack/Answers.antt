use Rattle.std.proofs.Common.{◌≡◌, true, arith}
use Rattle.std.specs.Prelude.{◌==◌}
use Rattle.std.specs.List.{list_any}
use Rattle.std.proofs.lemmas.Grind.{common_steps}
use Rattle.bmx_token.specs.declared.parts.Role.TheVariants.{Owner}
use Rattle.bmx_token.proofs.Acks.{ack-taken}
use Rattle.bmx_token.proofs.parts.Part.ack.Goals as goal

pub returns-clause-part : goal.returns-clause-part
returns-clause-part c =
    let owner : c.args.self.now.role ≡ Owner = grind (arith, common_steps) in
    let waited : list_any (λ node. node == c.args.from) c.args.self.now.waiting ≡ true = grind (arith, common_steps) in
    ack-taken c.args.self.now c.args.from _ _ owner waited c.leave-2.ensures c.leave.ensures
