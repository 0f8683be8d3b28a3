use Rattle.std.proofs.Common.{◌∙◌, ℕ, arith, refl, subst, false}
use Rattle.bmx_world.specs.declared.runs.RunEnd.{RunEnd}
use Rattle.bmx_run.specs.Inside.Phases.{Starts, ComesTo, Obeys, IsRun}
use Rattle.bmx_run.proofs.Walking.{HasCome, walk_at, comes_to, come_on, last_of, starts_last, ends_last, obeys_end}
use Rattle.bmx_run.proofs.runner.Runner.run.Goals as goal

pub obey-requires : goal.obey-requires
obey-requires c =
    let lines = c.args.lines.now in
    let r = c.loop-line.self in
    let i = c.loop-line.line-index in
    let seed = c.requires.start.0 in
    let b = c.requires.start.1 in
    let h : HasCome lines seed i r = c.loop-line.invariant.0 seed b in
    let to : ComesTo (walk_at lines seed i r h) c.line-item.result r = comes_to lines seed i c.line-item.result r c.requires.script c.loop-line-test.true c.line-item.is h in
    (walk_at lines seed i r h, to)

pub returns-in_default-clause-ends : goal.returns-in_default-clause-ends
returns-in_default-clause-ends c = λ seed b.
    let lines = c.args.lines.now in
    let r = c.loop-line.self in
    let i = c.loop-line.line-index in
    let h : HasCome lines seed i r = c.loop-line.invariant.0 seed b in
    let to : ComesTo (walk_at lines seed i r h) c.line-item.result r = comes_to lines seed i c.line-item.result r c.requires.script c.loop-line-test.true c.line-item.is h in
    subst (λ (k : ℕ). IsRun lines seed k c.obey.result c.obey.new.self) (c.obey.ensures.budget ∙ c.loop-line.invariant.1)
    (obeys_end (walk_at lines seed i r h) c.obey.result c.obey.new.self c.in_default.not-Ended (c.obey.ensures.obeys (walk_at lines seed i r h) to))

pub loop-line-preserved : goal.loop-line-preserved
loop-line-preserved c = (
  λ seed b.
      let lines = c.args.lines.now in
      let r = c.loop-line.self in
      let i = c.loop-line.line-index in
      let h : HasCome lines seed i r = c.loop-line.invariant.0 seed b in
      let to : ComesTo (walk_at lines seed i r h) c.line-item.result r = comes_to lines seed i c.line-item.result r c.requires.script c.loop-line-test.true c.line-item.is h in
      come_on lines seed i r c.obey.new.self h
      (subst (λ (e : RunEnd). Obeys (walk_at lines seed i r h) e c.obey.new.self) c.in-Ended.is (c.obey.ensures.obeys (walk_at lines seed i r h) to)),
  c.obey.ensures.budget ∙ c.loop-line.invariant.1,
)

pub phase-requires : goal.phase-requires
phase-requires c =
    let lines = c.args.lines.now in
    let r = c.loop-line.self in
    let i = c.loop-line.line-index in
    let seed = c.requires.start.0 in
    let b = c.requires.start.1 in
    let h : HasCome lines seed i r = c.loop-line.invariant.0 seed b in
    let start : Starts (last_of lines seed i r h) false r = starts_last lines seed i r h (omega (arith, c.loop-line-test.false)) in
    (last_of lines seed i r h, start)

pub returns-clause-ends : goal.returns-clause-ends
returns-clause-ends c = λ seed b.
    let lines = c.args.lines.now in
    let r = c.loop-line.self in
    let i = c.loop-line.line-index in
    let h : HasCome lines seed i r = c.loop-line.invariant.0 seed b in
    let start : Starts (last_of lines seed i r h) false r = starts_last lines seed i r h (omega (arith, c.loop-line-test.false)) in
    subst (λ (k : ℕ). IsRun lines seed k c.phase.result c.phase.new.self) (c.phase.ensures.budget ∙ c.loop-line.invariant.1)
    (ends_last (last_of lines seed i r h) c.phase.result c.phase.new.self refl (c.phase.ensures.comes (last_of lines seed i r h) start))

pub returns-in_default-clause-budget : goal.returns-in_default-clause-budget
returns-in_default-clause-budget c = c.obey.ensures.budget ∙ c.loop-line.invariant.1

pub returns-clause-budget : goal.returns-clause-budget
returns-clause-budget c = c.phase.ensures.budget ∙ c.loop-line.invariant.1
