use Rattle.std.proofs.Common.{◌≡◌, ℕ, ◌+◌, sym, ◌∙◌, subst, arith, true≢false}
use Rattle.bmx_space.specs.Inside.Sweeping.{IsSwept}
use Rattle.bmx_space.proofs.Sweeping.{IsSwept-passed, IsSwept-dropped}
use Rattle.bmx_space.proofs.sweep.sweep_at.Goals as goal

pub returns-then-is_unneeded-clause-swept : goal.returns-then-is_unneeded-clause-swept
returns-then-is_unneeded-clause-swept c = λ start before s.
    let n = c.mapped_at-home.ensures.numbers in
    IsSwept-dropped start c.args.segments.now c.mapped_at-home.result.0 c.mapped_at-home.result.1 c.args.i before n.0 n.1 n.2 s c.mapped_at-home.ensures.at c.drop_segment.new.self
    (c.is_unneeded.ensures.0 c.if-is_unneeded.true) c.drop_segment.ensures.blocks.blocks c.drop_segment.ensures.rest (c.drop_segment.ensures.listed c.args.i c.mapped_at-home.ensures.at)

pub returns-clause-swept : goal.returns-clause-swept
returns-clause-swept c = λ start before s.
    let n = c.mapped_at-home.ensures.numbers in
    let same : before ≡ before + 0 = omega arith in
    subst (λ (m : ℕ). IsSwept start c.args.segments.now c.args.i m) same
    (IsSwept-passed start c.args.segments.now c.mapped_at-home.result.0 c.mapped_at-home.result.1 c.args.i before n.0 n.1 n.2 s c.mapped_at-home.ensures.at
    (λ u. true≢false (sym (c.is_unneeded.ensures.1 u) ∙ c.if-is_unneeded.false)))
