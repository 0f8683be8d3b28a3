use Rattle.std.proofs.Common.{[], Err, sym, subst}
use Rattle.bmx_script.specs.Grammar.{ends, ends_early}
use Rattle.bmx_script.specs.Reading.{ForBad}
use Rattle.bmx_script.specs.Inside.Reader.{ReadsOn}
use Rattle.bmx_script.proofs.Sound.{sound_script}
use Rattle.bmx_script.proofs.scripts.Reader.finish.Goals as goal

pub invariant_of-result : goal.invariant_of-result
invariant_of-result c = (sound_script c.args.self c.requires c.if-self.false, c.requires.known)

pub returns-clause-ok : goal.returns-clause-ok
returns-clause-ok c = ends c.if-self.false

pub returns-then-self-clause-bad : goal.returns-then-self-clause-bad
returns-then-self-clause-bad c = subst (ForBad (λ why. ReadsOn c.args.self [] (Err why))) (sym c.bad.ensures) (ends_early c.if-self.true)
