use Rattle.std.proofs.Common.{IsTrue, ap, refl, subst, sym, ◌∙◌, ◌≡◌}
use Rattle.std.specs.Option.{option_copied_mut}
use Rattle.bmx_token.specs.Tokens.{acquire}
use Rattle.bmx_token.specs.declared.parts.Role.TheVariants.{Owner}
use Rattle.bmx_token.specs.declared.parts.Part.{Part}
use Rattle.bmx_tokens.proofs.Map.{there_is_one, written, becomes, answers, part_at-found, unwritten, same_table, OnErr-from}
use Rattle.bmx_tokens.proofs.Index.{indexed, listed_still}
use Rattle.bmx_tokens.proofs.tokens.Tokens.acquire.Goals as goal

pub unreachable-requires : goal.unreachable-requires
unreachable-requires c = there_is_one c.self.inside.parts.entries c.args.name (sym (ap option_copied_mut c.in_default.is) ∙ c.get_mut.ensures.value) (rw (← c.self.view_is) at c.requires.there)

pub acquire-requires : goal.acquire-requires
acquire-requires c = subst (λ (p : Part). p.role ≡ Owner → IsTrue c.args.copy) (part_at-found _ _ c.args.name c.in-Some.part.now c.self.view_is c.in-Some.ensures.value) c.requires.copy

pub invariant_of-self-in_err-answer : goal.invariant_of-self-in_err-answer
invariant_of-self-in_err-answer c = listed_still c.self.inside.me c.self.inside.parts.entries _ c.self.inside.servable.names c.reserve.new.self.names c.self.invariant
    (unwritten c.self.inside.parts (c.get_mut.follows.lender c.acquire.new.self) c.args.name c.in-Some.part.now c.acquire.new.self c.in-Some.ensures.value (c.get_mut.follows.holds c.acquire.new.self) c.in_err-answer.ensures.err) c.reserve.ensures.names

pub returns-in_err-answer-clause-err : goal.returns-in_err-answer-clause-err
returns-in_err-answer-clause-err c = OnErr-from c.from_residual-in_err-answer.result (rw (← c.self.view_is) (same_table _ _ refl
    (unwritten c.self.inside.parts (c.get_mut.follows.lender c.acquire.new.self) c.args.name c.in-Some.part.now c.acquire.new.self c.in-Some.ensures.value (c.get_mut.follows.holds c.acquire.new.self) c.in_err-answer.ensures.err) c.reserve.ensures.names
    (c.get_mut.follows.holds c.acquire.new.self).6))

pub invariant_of-self-2 : goal.invariant_of-self-2
invariant_of-self-2 c = indexed c.self.inside.me c.self.inside.parts (c.get_mut.follows.lender c.acquire.new.self) c.self.inside.servable.names c.reserve.new.self.names c.put.new.self.names c.args.name c.in-Some.part.now c.acquire.new.self c.can_serve-is_served.result
    c.self.invariant c.in-Some.ensures.value (c.get_mut.follows.holds c.acquire.new.self) c.reserve.ensures.names c.can_serve-is_served.ensures c.put.ensures.listed c.put.ensures.gone

pub returns-clause-part : goal.returns-clause-part
returns-clause-part c = becomes _ _ _ c.args.name c.in-Some.part.now c.acquire.new.self (λ me p. (acquire me p c.args.mode c.args.copy).0)
    c.self.view_is c.in-Some.ensures.value (written c.self.inside.parts (c.get_mut.follows.lender c.acquire.new.self) c.args.name c.in-Some.part.now c.acquire.new.self c.in-Some.ensures.value (c.get_mut.follows.holds c.acquire.new.self)) refl (c.get_mut.follows.holds c.acquire.new.self).6 c.in_ok-answer.ensures.part

pub returns-clause-answer : goal.returns-clause-answer
returns-clause-answer c = answers _ _ c.args.name c.in-Some.part.now (λ me p. (acquire me p c.args.mode c.args.copy).1) c.in_ok-answer.answer
    c.self.view_is c.in-Some.ensures.value c.in_ok-answer.ensures.answer
