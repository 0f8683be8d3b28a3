use Rattle.std.proofs.Common.{◌≡◌, ℕ, ◌+◌, ◌-◌, sym, subst, arith}
use Rattle.bmx_space.specs.Inside.Sweeping.{IsSwept}
use Rattle.bmx_space.proofs.Sweeping.{IsSwept-start, IsSwept-end}
use Rattle.bmx_space.proofs.space.Space.sweep.Goals as goal

pub loop-i-init : goal.loop-i-init
loop-i-init c =
    let h = c.args.segments.now in
    record {
      swept = subst (λ (n : ℕ). IsSwept h h n 0) (sym c.mapped-i.ensures.value) (IsSwept-start h);
      few = omega (arith, c.mapped-i.ensures.few);
    }

pub loop-i-preserved : goal.loop-i-preserved
loop-i-preserved c = record {
  swept =
      let some = c.loop-i-test.true in
      let back : c.loop-i.i ≡ c.loop-i.i - 1 + 1 = omega (arith, some) in
      c.sweep_at-swept.ensures.swept c.args.segments.now c.loop-i.swept
      (subst (λ (n : ℕ). IsSwept c.args.segments.now c.loop-i.segments n c.loop-i.swept) back c.loop-i.invariant.swept);
  few = omega (arith, c.sweep_at-swept.ensures.few, c.loop-i.invariant.few);
}

pub returns-clause-swept : goal.returns-clause-swept
returns-clause-swept c =
    let last : c.loop-i.i ≡ 0 = omega arith in
    IsSwept-end c.args.segments.now c.loop-i.segments c.loop-i.swept
    (subst (λ (n : ℕ). IsSwept c.args.segments.now c.loop-i.segments n c.loop-i.swept) last c.loop-i.invariant.swept)
