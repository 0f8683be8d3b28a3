use Rattle.std.proofs.Common.{ap, refl, sym, ◌∙◌}
use Rattle.std.specs.Option.{option_copied_mut}
use Rattle.bmx_token.specs.Tokens.{granted}
use Rattle.bmx_tokens.proofs.Map.{there_is_one, written, becomes, answers}
use Rattle.bmx_tokens.proofs.Index.{indexed}
use Rattle.bmx_tokens.proofs.tokens.Tokens.granted.Goals as goal

pub unreachable-requires : goal.unreachable-requires
unreachable-requires c = there_is_one c.self.inside.parts.entries c.args.name (sym (ap option_copied_mut c.in_default.is) ∙ c.get_mut.ensures.value) (rw (← c.self.view_is) at c.requires.there)

pub invariant_of-self-2 : goal.invariant_of-self-2
invariant_of-self-2 c = indexed c.self.inside.me c.self.inside.parts (c.get_mut.follows.lender c.granted-answer.new.self) c.self.inside.servable.names c.reserve.new.self.names c.put.new.self.names c.args.name c.in-Some.part.now c.granted-answer.new.self c.can_serve-is_served.result
    c.self.invariant c.in-Some.ensures.value (c.get_mut.follows.holds c.granted-answer.new.self) c.reserve.ensures.names c.can_serve-is_served.ensures c.put.ensures.listed c.put.ensures.gone

pub returns-clause-part : goal.returns-clause-part
returns-clause-part c = becomes _ _ _ c.args.name c.in-Some.part.now c.granted-answer.new.self (λ me p. (granted p c.args.from c.args.mode).0)
    c.self.view_is c.in-Some.ensures.value (written c.self.inside.parts (c.get_mut.follows.lender c.granted-answer.new.self) c.args.name c.in-Some.part.now c.granted-answer.new.self c.in-Some.ensures.value (c.get_mut.follows.holds c.granted-answer.new.self)) refl (c.get_mut.follows.holds c.granted-answer.new.self).6 c.granted-answer.ensures.part

pub returns-clause-answer : goal.returns-clause-answer
returns-clause-answer c = answers _ _ c.args.name c.in-Some.part.now (λ me p. (granted p c.args.from c.args.mode).1) c.granted-answer.result
    c.self.view_is c.in-Some.ensures.value c.granted-answer.ensures.answer
