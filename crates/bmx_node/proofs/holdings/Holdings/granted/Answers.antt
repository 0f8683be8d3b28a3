use Rattle.std.proofs.Common.{rules, ◌≡◌, true, false, Option, Some, None, IsSome, unwrap_or, sym, ◌∙◌, ap}
use Rattle.bmx_token.specs.declared.parts.Part.{Part}
use Rattle.bmx_token.specs.Tokens.{owner_part, granted}
use Rattle.bmx_tokens.specs.Tables.{part_of}
use Rattle.bmx_node.proofs.Grants.{grant_unknown, grant_unwanted}
use Rattle.bmx_node.proofs.holdings.Holdings.granted.Goals as goal

pub returns-in_default-clause-takes : goal.returns-in_default-clause-takes
returns-in_default-clause-takes c =
    let none : part_of c.args.self.now.tokens c.args.info.now.name ≡ None = rw c.in_default.is at c.get.ensures.none in
    rw c.tell.ensures (grant_unknown c.args.taking.stamp c.args.self.now c.args.taking.from c.args.taking.seq c.args.mode c.args.info.now c.args.fields.now c.requires.keeps none)

pub returns-then-not-awaits-clause-takes : goal.returns-then-not-awaits-clause-takes
returns-then-not-awaits-clause-takes c =
    let away : (granted c.in-Some.part.now c.args.taking.from c.args.mode).1 ≡ false = search (rules, c.awaits.ensures c.args.taking.from) in
    rw c.tell-then-not-awaits.ensures (grant_unwanted c.args.taking.stamp c.args.self.now c.args.taking.from c.args.taking.seq c.args.mode c.args.info.now c.args.fields.now c.in-Some.part.now c.requires.keeps c.in-Some.ensures.some away)

pub take_grant-requires-clause-awaits : goal.take_grant-requires-clause-awaits
take_grant-requires-clause-awaits c =
    let name = c.args.info.now.name in
    let so : (granted c.in-Some.part.now c.args.taking.from c.args.mode).1 ≡ true = search (rules, c.awaits.ensures c.args.taking.from) in
    ap (λ (x : Option Part). (granted (unwrap_or x owner_part) c.args.taking.from c.args.mode).1) c.in-Some.ensures.some ∙ so
